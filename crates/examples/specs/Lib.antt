-- The format's marked examples.
pub mod Examples
