pub mod Contracts
pub mod ChainLaws
pub mod CreateLaws
