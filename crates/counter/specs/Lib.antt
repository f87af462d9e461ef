pub mod SumTree
pub mod View
