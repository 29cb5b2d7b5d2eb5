pub mod First
pub mod Weakest
pub mod Forces
pub mod Neighbours
pub mod Lines
