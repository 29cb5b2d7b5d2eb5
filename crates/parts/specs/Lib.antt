pub mod Steels
pub mod Sizes
pub mod LoadKinds
pub mod Ranges
pub mod Holes
pub mod Refusals
