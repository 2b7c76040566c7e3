pub mod Pieces
pub mod Parts
pub mod Found
pub mod Whole
