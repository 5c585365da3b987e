-- What the contracts of `checksum` cite.
pub mod Crc
pub mod Demand
