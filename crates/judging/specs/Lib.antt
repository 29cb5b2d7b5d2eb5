pub mod Rows
pub mod Kinds
pub mod Judging
pub mod Factors
pub mod Extremes
pub mod Weighing
