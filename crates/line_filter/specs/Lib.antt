pub mod Lines
pub mod Digits
pub mod Steps
pub mod Runs
pub mod Words
pub mod OneWorded
pub mod Lanes
