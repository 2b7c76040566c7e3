pub mod Groups
pub mod Closing
pub mod Escapes
