pub mod Fits
pub mod Standing
