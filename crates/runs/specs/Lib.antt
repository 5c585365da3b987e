-- What contracts and other crates' definitions cite.
pub mod Runs
pub mod Gaps
pub mod Demand
