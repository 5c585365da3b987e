-- What the contracts of `stores` cite, and the states of a device that the claims speak of.
pub mod Stores
pub mod Given
pub mod Answers
pub mod States
pub mod Demand
