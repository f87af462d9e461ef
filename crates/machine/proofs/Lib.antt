pub mod Joined
pub mod Known
pub mod Laws
pub mod Seen
pub mod Stored
pub mod Tried
