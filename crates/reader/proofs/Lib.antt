pub mod Laws
pub mod InARow
