-- What the contracts of `mend` cite, and what mending promises.
pub mod Mend
pub mod Plan
pub mod Answers
pub mod Demand
