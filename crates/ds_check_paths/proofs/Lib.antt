pub mod Stands
pub mod Numbers
pub mod Assigned
pub mod Told
