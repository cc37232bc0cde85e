pub mod Flash
pub mod Run
pub mod Areas
pub mod Given
