pub mod Chains
pub mod Least
pub mod Slips
pub mod NetWidth
pub mod Rounding
pub mod Search
