-- The laws that callers cite.
pub mod Numbers
pub mod Parts
pub mod Tests
pub mod Zero
pub mod Arms
pub mod Demand
