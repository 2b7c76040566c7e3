pub mod Lists
pub mod Faults
pub mod Placed
pub mod Found
pub mod Entered
pub mod Meant
