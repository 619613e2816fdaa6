pub mod Chain
pub mod Create
