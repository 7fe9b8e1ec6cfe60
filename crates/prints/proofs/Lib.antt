-- Laws of the texts that are written, one after the other. Assumes nothing.
pub mod Laws
