pub mod Totals
pub mod Numbers
pub mod Outs
pub mod Lines
pub mod Reports
pub mod Tried
pub mod Worked
