pub mod Xor
pub mod Steps
pub mod Entries
pub mod Pieces
pub mod Unique
