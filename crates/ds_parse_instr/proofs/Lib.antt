pub mod Parsing
pub mod Cases
pub mod Never
