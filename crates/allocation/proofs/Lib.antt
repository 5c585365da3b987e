-- The laws that callers cite.
pub mod Walking
pub mod Tables
pub mod Finding
pub mod Allowed
pub mod Calls
pub mod Leaving
pub mod Demand
