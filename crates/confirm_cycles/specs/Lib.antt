pub mod Confirmation
