pub mod Tree
pub mod Machine
pub mod Log
