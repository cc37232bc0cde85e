pub mod Splits
pub mod Numbers
pub mod Rows
pub mod Decimal
pub mod Grammar
