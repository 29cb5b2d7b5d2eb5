pub mod Law
pub mod Rows
pub mod Account
pub mod Calls
pub mod Numbering
pub mod Kept
pub mod Details
