mod Added
pub mod Refused
