-- The laws that callers cite.
pub mod Calls
pub mod Heads
pub mod Bytes
pub mod Demand
