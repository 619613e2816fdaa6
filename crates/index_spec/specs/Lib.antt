pub mod Layout
pub mod Replies
pub mod Calls
pub mod Pages
