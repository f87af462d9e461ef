pub mod Updates
pub mod EventKinds
pub mod Starred
pub mod Cases
pub mod Direct
pub mod Long
pub mod Drawers
