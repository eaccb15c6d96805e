pub mod Entries
pub mod Picked
pub mod Opened
