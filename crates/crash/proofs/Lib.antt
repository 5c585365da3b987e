-- The laws that callers cite.
pub mod Landing
pub mod Copies
pub mod Groups
