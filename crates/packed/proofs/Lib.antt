pub mod Low
pub mod Apart
pub mod Memory
pub mod Packs
pub mod Unique
