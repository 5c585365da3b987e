-- What the contracts of `sectors` cite, and what is promised of them.
pub mod Sectors
pub mod Apply
pub mod Demand
