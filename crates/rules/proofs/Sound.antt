-- Demand 3, the proof: from expressions to lines, runs, tables and texts. Assumes nothing.
pub mod Facts
pub mod Expr
pub mod Keeps
pub mod Line
pub mod Run
pub mod StepTables
pub mod Starts
pub mod Texts
