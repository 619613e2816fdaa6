pub mod Layout
pub mod Child
pub mod Header
pub mod Leaf
pub mod Branch
pub mod NotAStore
