-- The laws that callers cite.
pub mod Readings
pub mod Written
pub mod Exactly
pub mod Applying
pub mod Cuts
pub mod RoundTrip
pub mod Offsets
pub mod Demand
pub mod Times
