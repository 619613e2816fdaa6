pub mod Walk
pub mod Accepts
