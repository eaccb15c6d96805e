pub mod Text
pub mod Known
mod Joined
mod Running
mod Stopping
pub mod Answered
mod Spelling
pub mod Front
mod Blocks
