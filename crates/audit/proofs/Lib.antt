pub mod Chained
pub mod Bytewise
pub mod Reached
pub mod Sees
pub mod Passes
pub mod Theorem
