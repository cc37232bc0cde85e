pub mod Budgets
pub mod Readable
pub mod StepLogs
pub mod Stands
pub mod Written
pub mod Judges
pub mod Told
pub mod Unique
