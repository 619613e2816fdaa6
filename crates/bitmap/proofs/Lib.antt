pub mod BitLaws
pub mod BitmapLaws
pub mod EntryLaws
