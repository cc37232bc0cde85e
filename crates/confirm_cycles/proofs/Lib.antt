pub mod Confirms
pub mod Unique
