pub mod Blocks
pub mod Adding
pub mod Ending
pub mod Pieces
pub mod Unique
