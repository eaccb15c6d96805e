pub mod Tied
pub mod Following
pub mod StateTied
pub mod Worded
