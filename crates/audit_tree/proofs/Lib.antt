pub mod Contracts
pub mod SlotLaws
pub mod NodeLaws
