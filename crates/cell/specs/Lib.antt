pub mod Cell
pub mod Done
