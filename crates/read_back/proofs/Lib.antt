pub mod ByRank
pub mod Starts
pub mod Owners
pub mod Bytes
pub mod Records
pub mod ReadBack
pub mod AppliedBytes
