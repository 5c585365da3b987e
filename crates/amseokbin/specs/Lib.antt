-- What the contracts of `amseokbin` cite, and what its calls give.
pub mod Answers
pub mod Copies
pub mod Records
pub mod Room
pub mod Plans
pub mod Demand
pub mod Bare
pub mod Pairs
