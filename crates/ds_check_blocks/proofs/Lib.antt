pub mod SitesOf
pub mod Along
pub mod Standing
pub mod Leads
pub mod Branched
pub mod Reversed
pub mod Kept
