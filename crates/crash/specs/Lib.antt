-- The crash model.
pub mod Crash
