-- What the contracts of `receive` cite, and what pieces that follow one another give.
pub mod Receive
pub mod Demand
