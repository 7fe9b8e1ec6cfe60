-- What follows from the contracts for every result that they allow. Assumes nothing.
pub mod Demands
pub mod Fine
pub mod Laws
