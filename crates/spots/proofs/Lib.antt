pub mod Laws
pub mod Within
pub mod Got
pub mod Shapes
