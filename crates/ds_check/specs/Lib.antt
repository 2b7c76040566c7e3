pub mod Fault
pub mod Downward
pub mod Front
pub mod Laws
pub mod Instr
pub mod Broken
