pub mod Answered
pub mod PageText
pub mod Listing
