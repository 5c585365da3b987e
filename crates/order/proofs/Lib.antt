-- The laws that callers cite, and what is claimed.
pub mod Ordering
pub mod Looking
pub mod Demand
