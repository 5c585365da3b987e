-- The laws that the functions' proofs cite, and the claims of specs/Demand.antt.
pub mod Calls
pub mod Offsets
pub mod Parts
pub mod Alone
pub mod Least
pub mod Placed
pub mod Demand
pub mod Applying
