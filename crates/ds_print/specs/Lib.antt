pub mod Names
pub mod Canonical
pub mod Separators
pub mod Parts
pub mod Lines
