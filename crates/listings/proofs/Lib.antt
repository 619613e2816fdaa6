pub mod LineLaws
pub mod PageLines
pub mod Listings
pub mod ListedLaws
pub mod ShowLaws
pub mod RestLaws
