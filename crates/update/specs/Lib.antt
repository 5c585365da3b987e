-- What the contracts of `update` cite, and demand 3.
pub mod Update
pub mod Plan
pub mod Answers
pub mod Demand
