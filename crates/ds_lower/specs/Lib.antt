pub mod Known
pub mod Notes
