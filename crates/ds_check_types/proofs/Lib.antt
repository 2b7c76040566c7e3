pub mod Begun
pub mod Called
pub mod Kept
pub mod Pairs
pub mod Passed
pub mod Listed
pub mod Walked
