pub mod Lines
pub mod Grammar
