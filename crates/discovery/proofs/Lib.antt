-- The laws that callers cite.
pub mod Deciding
pub mod Room
pub mod Demand
pub mod Latest
pub mod Steps
pub mod Copied
pub mod Examining
