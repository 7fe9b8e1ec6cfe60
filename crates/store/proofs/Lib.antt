-- The ways of the code. Assumes nothing.
pub mod Ways
