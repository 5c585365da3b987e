-- What the contracts of `shifts` and the definition of the checksum cite, and what holds of it in other words.
pub mod Shifts
pub mod Demand
