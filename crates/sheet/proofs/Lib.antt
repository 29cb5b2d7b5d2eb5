pub mod Tables
pub mod Holes
pub mod Shift
pub mod Numbers
pub mod Bearable
pub mod Soundness
pub mod Joints
