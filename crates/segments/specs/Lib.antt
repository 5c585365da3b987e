-- What contracts and other crates' definitions cite.
pub mod Segments
pub mod Clash
pub mod Sectors
pub mod Order
pub mod Demand
