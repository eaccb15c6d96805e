pub mod Kept
pub mod Lasting
pub mod Picking
pub mod Searching
pub mod Variants
