-- The laws that callers cite, and what holds of the words.
pub mod Arms
pub mod Order
pub mod Refusals
pub mod Reasons
pub mod Demand
