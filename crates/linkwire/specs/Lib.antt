pub mod Lines
pub mod Laws
pub mod OneText
pub mod Arguments
