pub mod Reads
pub mod InARow
