pub mod EntryLaws
pub mod SheetLaws
pub mod WalkLaws
pub mod AfterLaws
pub mod HeldLaws
pub mod TakeLaws
