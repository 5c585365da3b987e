-- The laws that callers cite.
pub mod Segments
pub mod Clash
pub mod Sectors
pub mod Left
pub mod Next
pub mod Order
pub mod Looking
pub mod Pairs
