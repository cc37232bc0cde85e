pub mod Bits
pub mod Unique
