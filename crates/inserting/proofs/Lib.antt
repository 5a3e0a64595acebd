-- The laws of crate `inserting`, in the order in which they build on each other.
pub mod Records
pub mod Going
pub mod Whole
pub mod Sample
