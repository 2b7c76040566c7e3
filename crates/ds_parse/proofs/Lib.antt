pub mod Runs
pub mod Parsing
pub mod Texts
