-- The laws of crate `notice`, in the order in which they build on each other.
pub mod Sound
pub mod Limit
