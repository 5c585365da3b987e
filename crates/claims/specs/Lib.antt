-- What holds of the crates together.
pub mod Chain
pub mod Unread
pub mod InMemory
pub mod Heads
