pub mod StateArea
pub mod Steps
pub mod Calls
pub mod Boot
pub mod FirmwareState
pub mod FirmwareUpdater
pub mod Power
pub mod Sheet
