-- What contracts and other crates' definitions cite.
pub mod Head
pub mod Items
pub mod Making
pub mod Demand
