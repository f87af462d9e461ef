pub mod InOrder
pub mod Demand3
pub mod Applied
