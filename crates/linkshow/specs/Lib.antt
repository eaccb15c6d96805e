pub mod Arguments
pub mod Lines
pub mod Laws
