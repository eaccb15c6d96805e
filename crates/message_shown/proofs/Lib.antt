pub mod Added
pub mod Leniently
mod Faults
pub mod Meant
mod AcceptedMeant
mod WordKeys
mod Words
