-- The laws that callers cite.
pub mod Laws
pub mod Demand
