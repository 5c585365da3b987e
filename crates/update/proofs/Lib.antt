-- The laws that callers cite.
pub mod NewBlock
pub mod NewHeld
pub mod Stores
pub mod Demand
pub mod Allowing
pub mod Choosing
pub mod Planning
pub mod Changing
pub mod Refusing
pub mod Lying
