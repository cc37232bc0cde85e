pub mod Constants
pub mod Rounds
pub mod Partly
