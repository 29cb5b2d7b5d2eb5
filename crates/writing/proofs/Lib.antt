pub mod Slip
pub mod Room
