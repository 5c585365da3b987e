-- What the contracts of `format` cite, and what holds of formatted copies.
pub mod Format
pub mod Filling
pub mod OnDevice
pub mod Writing
pub mod Demand
