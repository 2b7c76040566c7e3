pub mod Answered
pub mod Copied
pub mod Fitting
pub mod Coming
pub mod Arrives
pub mod Arrived
