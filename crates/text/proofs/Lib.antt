-- Laws of the words of a text that other crates cite, and the ways of the code. Assumes nothing.
pub mod Chain
pub mod Laws
pub mod Ways
