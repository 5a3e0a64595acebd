-- The laws of crate `saved`, in the order in which they build on each other.
pub mod Body
pub mod Shape
pub mod Fitting
pub mod Answers
pub mod Own
pub mod Resumed
pub mod Flipped
pub mod Older
pub mod Accepted
pub mod Examples
