-- What the contracts of `allocation` cite, and what is claimed of it.
pub mod Walking
pub mod Tables
pub mod Answers
pub mod Change
pub mod Demand
