-- The laws that callers cite, and those that the proofs here stand on.
mod Lookup
pub mod Laws
pub mod Demand
