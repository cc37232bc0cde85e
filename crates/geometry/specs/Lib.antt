pub mod Geometry
pub mod Refusals
pub mod Admitted
pub mod PageSize
