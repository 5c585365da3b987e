-- The laws that callers cite, and what a date means.
pub mod Walks
pub mod Dates
pub mod Demand
