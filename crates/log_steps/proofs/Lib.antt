pub mod Entries
pub mod Reading
pub mod Turns
pub mod Unique
