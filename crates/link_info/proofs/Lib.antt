pub mod Styles
pub mod Listed
pub mod Kept
