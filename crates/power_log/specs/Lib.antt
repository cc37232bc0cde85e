pub mod Log
pub mod Tells
