pub mod MapLaws
pub mod ItemLaws
pub mod ArrayLaws
pub mod Contracts
