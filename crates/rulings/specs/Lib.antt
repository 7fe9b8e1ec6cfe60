-- What the definitions answer to the texts of the rulings, by computation. Assumes nothing.
pub mod Cases
pub mod Glue
pub mod Joined
pub mod Long
