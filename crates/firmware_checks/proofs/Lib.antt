pub mod Verdicts
pub mod Checked
pub mod Unique
