-- What the contracts cite. Assumes nothing.
pub mod Lines
pub mod Says
