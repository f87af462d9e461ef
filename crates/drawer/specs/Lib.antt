pub mod Cuts
pub mod Lending
pub mod Draws
pub mod AsAlone
