pub mod CountIn
