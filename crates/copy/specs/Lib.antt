-- What the contracts of `copy` cite, and what holds of one copy.
pub mod Copy
pub mod Answers
pub mod Demand
