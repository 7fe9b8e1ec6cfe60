-- The checker accepts exactly what the published rules derive. Assumes nothing.
pub mod Judges
pub mod Allows
pub mod Derivable
