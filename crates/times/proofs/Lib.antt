-- The laws of crate `times`, in the order in which they build on each other.
pub mod Whole
pub mod Words
pub mod Formulas
pub mod Answers
pub mod Laws
