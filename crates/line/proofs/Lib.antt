pub mod ReadLaws
pub mod ParseLaws
pub mod WriteLaws
pub mod PieceLaws
pub mod CasesHold
pub mod RoundTrip
