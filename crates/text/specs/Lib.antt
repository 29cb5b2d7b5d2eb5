pub mod Cursors
pub mod Drafts
pub mod Figures
pub mod Pieces
pub mod Words
