-- What the contracts of `sampling` cite.
pub mod Laying
pub mod Pieces
