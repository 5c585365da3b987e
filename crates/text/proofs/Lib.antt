-- The laws that callers cite.
pub mod Decimals
pub mod Texts
