pub mod Kept
pub mod Traced
