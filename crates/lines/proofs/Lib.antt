pub mod AnswerTexts
pub mod Answers
pub mod Talks
pub mod Programs
pub mod Areas
pub mod Standing
pub mod Hearings
