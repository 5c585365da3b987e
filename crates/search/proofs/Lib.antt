-- The laws that callers cite.
pub mod Search
pub mod Sums
pub mod Distinct
