-- What the proofs of several functions use; and that what is read once is what the rules read.
pub mod Exprs
pub mod Keys
pub mod Mark
mod Ways
mod Shaped
pub mod Right
