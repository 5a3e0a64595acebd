-- The laws of crate `lines`, in the order in which they build on each other.
pub mod Capture
pub mod Taking
pub mod Calls
pub mod Going
pub mod Whole
pub mod Sample
