-- The claims, proved.
pub mod Chain
pub mod Unread
pub mod InMemory
pub mod Heads
