pub mod Fails
mod Owned
mod Stood
