pub mod Truth
pub mod Records
pub mod Laws
