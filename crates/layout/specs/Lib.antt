-- What the contracts of `layout` cite.
pub mod Limits
pub mod Places
pub mod Answers
pub mod Demand
