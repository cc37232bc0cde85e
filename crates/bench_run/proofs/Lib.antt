pub mod Whole
pub mod Writes
