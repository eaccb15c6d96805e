pub mod Hosts
pub mod Entries
pub mod Leading
pub mod Turns
pub mod Fewer
pub mod TwoWays
pub mod Whole
