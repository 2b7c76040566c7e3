pub mod Told
pub mod Full
pub mod Reading
pub mod Laws
