pub mod ReadBack
pub mod AppliedBytes
