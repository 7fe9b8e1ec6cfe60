-- What the proofs of several functions use.
mod Covers
pub mod LabelLines
pub mod Laws
pub mod Places
pub mod Walk
