-- The laws that callers cite.
pub mod Testing
pub mod Accepted
pub mod Naming
pub mod Checking
pub mod Handing
pub mod Right
pub mod Change
pub mod Demand
