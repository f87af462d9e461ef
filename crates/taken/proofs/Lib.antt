pub mod Lists
pub mod Agree
