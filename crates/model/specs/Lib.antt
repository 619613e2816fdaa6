pub mod Key
pub mod Numbers
pub mod Answers
pub mod Map
pub mod Nibble
pub mod Picture
pub mod Page
pub mod Entry
