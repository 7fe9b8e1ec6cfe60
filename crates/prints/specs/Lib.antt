-- What is written into a lent table, and that the texts of the programs fit it.
pub mod Written
pub mod Room
