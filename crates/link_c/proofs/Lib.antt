pub mod Faults
pub mod Picking
pub mod Refusals
pub mod Steps
pub mod Texts
