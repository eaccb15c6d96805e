pub mod Runs
pub mod Reading
pub mod Pieces
