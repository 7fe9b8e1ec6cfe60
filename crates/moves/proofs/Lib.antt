-- What the proofs of several functions use.
pub mod Laws
pub mod Held
