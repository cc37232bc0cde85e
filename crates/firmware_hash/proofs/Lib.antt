pub mod Asked
pub mod Answers
pub mod Depends
pub mod Unique
