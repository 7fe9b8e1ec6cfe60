-- Laws of the definitions that proofs and readers cite. Assumes nothing.
pub mod Tests
pub mod Stages
pub mod Accepts
pub mod Lists
pub mod Covering
pub mod Small
pub mod Steps
pub mod Absent
pub mod Told
