pub mod AnswerLaws
pub mod TurnLaws
