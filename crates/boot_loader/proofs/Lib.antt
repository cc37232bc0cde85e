pub mod Boots
pub mod Unique
