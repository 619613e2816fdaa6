pub mod Walk
pub mod Find
pub mod Writes
pub mod Accepted
