pub mod Room
pub mod Text
pub mod Cursor
