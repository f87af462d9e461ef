pub mod Laws
pub mod Filled
pub mod Stores
pub mod Attempts
