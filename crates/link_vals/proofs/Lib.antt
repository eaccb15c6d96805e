pub mod Pieces
pub mod Numbers
pub mod ExtentSums
pub mod States
pub mod PhysIds
pub mod Opened
