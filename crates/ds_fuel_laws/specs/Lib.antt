pub mod Fuel
pub mod Laws
pub mod Tried
