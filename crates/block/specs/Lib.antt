-- What the contracts of `block` cite, and what holds of it in other words.
pub mod Entry
pub mod Block
pub mod Writing
pub mod Laid
pub mod Accepted
pub mod Answers
pub mod Demand
