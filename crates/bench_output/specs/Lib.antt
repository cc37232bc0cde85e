pub mod Output
pub mod Example
