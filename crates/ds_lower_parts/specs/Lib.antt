pub mod Bytes
pub mod Callees
pub mod Known
