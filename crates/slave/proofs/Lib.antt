-- The laws of crate `slave`, in the order in which they build on each other.
pub mod Stepping
pub mod Calling
pub mod Passing
pub mod Sound
pub mod Due
pub mod Longer
pub mod Limit
