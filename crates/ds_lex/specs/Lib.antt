pub mod Bytes
pub mod Number
pub mod Lexed
pub mod Fault
pub mod Scan
pub mod Written
