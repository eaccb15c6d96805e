pub mod Requests
pub mod Same
pub mod Tables
pub mod PlaceLaws
