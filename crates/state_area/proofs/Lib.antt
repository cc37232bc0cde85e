pub mod Words
pub mod Changes
pub mod Marks
pub mod Unique
