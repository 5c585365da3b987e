-- What the contracts of `words` cite, and what holds of the words.
pub mod Words
pub mod Demand
