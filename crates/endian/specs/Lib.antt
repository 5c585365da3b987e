-- What the contracts of `endian` cite, and what holds of it in other words.
pub mod Bytes
pub mod Demand
