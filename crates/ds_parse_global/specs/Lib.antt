pub mod Same
pub mod Heads
pub mod Places
