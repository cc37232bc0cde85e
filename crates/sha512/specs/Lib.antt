pub mod Sha512
pub mod Streams
