-- The laws that callers cite, the claims, and the laws of the rows' arms.
pub mod Xor
pub mod Laws
pub mod Demand
mod Arms
