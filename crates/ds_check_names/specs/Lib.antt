pub mod Scope
pub mod Fault
pub mod Entries
