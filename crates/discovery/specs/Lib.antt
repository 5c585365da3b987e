-- What the contracts of `discovery` cite, and what discovery promises.
pub mod Discovery
pub mod Newest
pub mod Examine
pub mod Answers
pub mod Demand
