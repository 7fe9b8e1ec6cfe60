-- Laws of counting that other crates cite, and the ways of the loops. Assumes nothing.
pub mod Laws
pub mod Ways
