pub mod PartLaws
pub mod NumberLaws
pub mod CommonLaws
