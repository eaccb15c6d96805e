pub mod Requests
pub mod Lawed
pub mod Opened
pub mod Lengths
