pub mod Said
pub mod Gathered
pub mod Commands
pub mod Cuts
pub mod Pieces
