pub mod Cells
pub mod Words
pub mod States
pub mod Unique
