-- The laws that callers cite.
pub mod Heads
pub mod Items
pub mod Making
pub mod Building
