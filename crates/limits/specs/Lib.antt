pub mod Foremost
pub mod Rating
pub mod Strengths
pub mod Bearing
pub mod Norm
pub mod Bounds
