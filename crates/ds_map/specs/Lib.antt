pub mod Bounds
pub mod Blocks
pub mod Regions
pub mod Words
