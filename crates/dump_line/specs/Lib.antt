-- What the contracts of `dump_line` cite, and what holds of the line.
pub mod Line
pub mod Answers
pub mod Demand
