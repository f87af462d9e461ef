pub mod Raised
pub mod Greatest
