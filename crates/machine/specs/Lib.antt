pub mod Arrays
pub mod Nexts
pub mod Tries
