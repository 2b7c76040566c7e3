pub mod Compared
mod Tried
