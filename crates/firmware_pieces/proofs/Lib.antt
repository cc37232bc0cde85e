pub mod Cutting
pub mod Writes
pub mod Loop
pub mod Ranges
pub mod Verdicts
pub mod Unique
