pub mod Invariant
pub mod Others
pub mod Stands
pub mod Moves
pub mod Theorem
pub mod Linear
