pub mod Runs
pub mod Again
pub mod Fields
pub mod Depth
pub mod Keyed
