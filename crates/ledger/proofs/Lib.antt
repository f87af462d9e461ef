pub mod Under
pub mod Counted
pub mod Numbers
pub mod Keeps
pub mod Total
