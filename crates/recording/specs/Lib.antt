pub mod Numbers
pub mod Record
pub mod Written
