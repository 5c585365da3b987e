-- What the contracts of `heads` cite, and what is claimed of it.
pub mod Changing
pub mod Demand
