pub mod Tree
pub mod Calls
pub mod Records
pub mod Prefix
pub mod After
pub mod Stored
pub mod Chain
