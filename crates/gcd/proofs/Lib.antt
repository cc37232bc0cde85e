pub mod Divisors
pub mod Least
pub mod Unique
