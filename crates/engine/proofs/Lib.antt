pub mod Agrees
pub mod Room
pub mod Tries
pub mod Runs
pub mod Whole
pub mod Loop
pub mod AcceptedRows
pub mod Laws
