pub mod Ends
pub mod Tries
