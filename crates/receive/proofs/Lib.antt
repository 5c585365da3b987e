-- The laws that callers cite.
pub mod Calls
pub mod Joined
pub mod Following
pub mod State
pub mod Choosing
pub mod Answering
pub mod Demand
