pub mod Deeper
mod Tried
pub mod TriedModule
mod TriedWords
pub mod Exist
pub mod Computed
pub mod Words
pub mod Caps
pub mod Arrays
pub mod Lists
pub mod Places
pub mod Large
pub mod Orders
pub mod Holding
pub mod Filling
pub mod Layouts
pub mod Fitting
pub mod Laws
