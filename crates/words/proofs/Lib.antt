-- The laws that callers cite, and what holds of the words.
pub mod Words
pub mod Demand
