pub mod Spot
pub mod Got
pub mod Lawful
