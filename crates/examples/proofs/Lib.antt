-- The format's marked examples, proved.
pub mod Room
pub mod Examples
