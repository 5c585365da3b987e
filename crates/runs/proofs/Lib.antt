-- The laws that callers cite.
pub mod Runs
pub mod Gaps
pub mod Fit
pub mod Demand
