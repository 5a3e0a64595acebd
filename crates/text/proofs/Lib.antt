-- The laws of crate `text`, in the order in which they build on each other.
pub mod Decimals
pub mod Putting
