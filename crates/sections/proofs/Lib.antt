pub mod Room
pub mod Spaced
