pub mod Bounds
pub mod Equality
pub mod Equations
pub mod Groups
