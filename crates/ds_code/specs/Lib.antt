pub mod Machine
pub mod Rows
pub mod CodeMeaning
pub mod CodeProgram
pub mod Cells
pub mod Callees
pub mod Lowering
