-- Laws that the proofs of `sampling` share.
pub mod Patches
pub mod Records
pub mod Pieces
