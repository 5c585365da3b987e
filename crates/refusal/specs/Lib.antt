-- What the contracts of `refusal` cite, what all refusing calls cite, and what holds of the words.
pub mod Numbers
pub mod Words
pub mod Refusals
pub mod Reasons
pub mod Tests
pub mod Demand
