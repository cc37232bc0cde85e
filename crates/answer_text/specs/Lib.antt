pub mod Answers
pub mod Texts
