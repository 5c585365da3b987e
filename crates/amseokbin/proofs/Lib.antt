-- The claims, proved.
pub mod Demand
pub mod Telling
pub mod Numbers
pub mod Bare
pub mod Pairs
