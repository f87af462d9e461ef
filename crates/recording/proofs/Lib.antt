pub mod Cases
pub mod Lays
pub mod Laws
