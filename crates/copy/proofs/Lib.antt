-- The laws that callers cite.
pub mod Presence
pub mod Latest
pub mod Newness
pub mod Readings
pub mod Demand
