pub mod Tests
pub mod Asked
pub mod Memory
pub mod Decides
pub mod Trials
pub mod Turned
pub mod Examples
