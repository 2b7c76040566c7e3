pub mod Members
pub mod Visits
pub mod Ahead
pub mod Searches
pub mod Steps
pub mod Cursors
pub mod Classes
