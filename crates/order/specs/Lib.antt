-- What contracts and other crates' definitions cite, and what is claimed of it.
pub mod Ordering
pub mod Demand
