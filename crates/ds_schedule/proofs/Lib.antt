pub mod Turning
pub mod Same
pub mod Behind
