-- The laws of crate `inserter`, in the order in which they build on each other.
pub mod Judged
pub mod Calling
pub mod Kept
