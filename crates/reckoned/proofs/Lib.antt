-- The laws of crate `reckoned`, in the order in which they build on each other.
pub mod Reckoned
