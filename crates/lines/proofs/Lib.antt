pub mod Digits
pub mod Left
pub mod Texts
