pub mod Values
pub mod Tests
pub mod Rows
pub mod PageSize
pub mod Unique
