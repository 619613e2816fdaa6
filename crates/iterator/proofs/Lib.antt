pub mod PageContracts
pub mod SeekLaws
pub mod PageLaws
pub mod DecentLaws
pub mod UnreadLaws
