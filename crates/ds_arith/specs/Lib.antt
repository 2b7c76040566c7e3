pub mod Comparisons
pub mod Numbers
pub mod Operations
