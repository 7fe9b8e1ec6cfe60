-- The definitions that this crate's contracts name, and the laws about them.
pub mod Passed
pub mod Walk
pub mod Trees
