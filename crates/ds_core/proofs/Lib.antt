pub mod Moves
pub mod Turned
pub mod Recorded
pub mod Firsts
pub mod Passing
