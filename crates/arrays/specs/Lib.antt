pub mod Arrays
pub mod Numbers
