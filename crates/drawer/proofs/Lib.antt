pub mod Reached
pub mod Sizes
pub mod Alone
pub mod Passes
pub mod Answers
pub mod Cutting
pub mod Laws
