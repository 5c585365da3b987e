-- The laws that callers cite.
pub mod Checking
pub mod Choosing
pub mod Numbering
pub mod Filling
pub mod Demand
pub mod OnDevice
pub mod Starting
pub mod Exactly
pub mod Writing
