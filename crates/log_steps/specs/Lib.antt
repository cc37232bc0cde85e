pub mod Entries
pub mod Steps
pub mod Reader
pub mod Code
