-- What the proofs of several functions use.
pub mod Exprs
mod Labels
pub mod Laws
mod Once
pub mod Ways
