pub mod Told
pub mod Laws
pub mod Example
pub mod Worked
