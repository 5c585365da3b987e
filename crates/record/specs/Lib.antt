-- What the contracts of `record` cite, and what is claimed of it.
pub mod Accept
pub mod Sectors
pub mod Answers
pub mod Demand
