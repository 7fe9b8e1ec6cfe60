-- Of each public function: two results, and what they leave behind its `&mut` parameters, that its contract allows coincide. Assumes nothing.
pub mod Answers
pub mod Determined
pub mod Judging
pub mod Numbers
pub mod Reading
pub mod Stepping
pub mod Tables
pub mod Texts
