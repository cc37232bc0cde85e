pub mod Cells
pub mod Choice
pub mod Magic
pub mod OneResult
