pub mod Pass
pub mod Sized
