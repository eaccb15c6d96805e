pub mod Say
pub mod Cuts
pub mod Rest
pub mod Silent
pub mod Bounds
