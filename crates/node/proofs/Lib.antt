pub mod ChildLaws
pub mod Frames
pub mod RecordLaws
pub mod HeaderLaws
pub mod Contracts
