pub mod Sites
pub mod Edges
pub mod Uses
pub mod Leads
pub mod Predecessors
pub mod Phis
