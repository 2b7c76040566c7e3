pub mod Lists
pub mod Names
pub mod Held
pub mod Placed
pub mod Reached
pub mod Acts
pub mod Begins
