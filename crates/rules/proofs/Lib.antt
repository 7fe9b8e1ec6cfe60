-- The statements that a visitor reads first, then their proofs. They stand here and not in specs/, so that a must-fail edit of a definition is refused by them.
pub mod Starred
pub mod Demands
pub mod Laws
pub mod Exactly
pub mod Sound
