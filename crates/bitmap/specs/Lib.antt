pub mod Bits
pub mod Entries
