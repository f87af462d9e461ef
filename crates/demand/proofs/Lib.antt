pub mod First
pub mod OneOrder
pub mod TakesIn
pub mod InOrder
pub mod OneList
pub mod Holds
pub mod Columns
pub mod Applied
