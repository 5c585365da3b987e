-- The laws of `mend`.
pub mod Choosing
pub mod Kept
pub mod Stores
pub mod Blocks
pub mod Landing
pub mod Giving
pub mod Demand
pub mod Refusing
pub mod Lying
pub mod Answering
