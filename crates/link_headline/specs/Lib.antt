pub mod Rows
pub mod Values
pub mod Kernel
pub mod Headline
pub mod Words
pub mod StateRows
