pub mod Processes
