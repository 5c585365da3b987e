-- What the contract of `calendar` cites, and what it means.
pub mod Calendar
pub mod Demand
