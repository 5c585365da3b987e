-- The laws that callers cite, and what holds of the line.
pub mod Lengths
pub mod Lines
pub mod Demand
