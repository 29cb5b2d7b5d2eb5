pub mod Causes
pub mod Shapes
pub mod Beginnings
pub mod LineFaults
pub mod Reads
pub mod Fields
pub mod Stages
