pub mod Stores
pub mod Unique
