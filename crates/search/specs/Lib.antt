-- What other crates' definitions use.
pub mod Search
