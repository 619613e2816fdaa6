pub mod Array
pub mod Answers
