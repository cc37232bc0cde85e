pub mod Made
pub mod Demand
pub mod Unique
