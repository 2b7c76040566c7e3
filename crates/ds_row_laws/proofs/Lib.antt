mod Lists
mod Located
mod Acts
pub mod Rows
