-- The laws of crate `cadence`, in the order in which they build on each other.
pub mod Lengths
pub mod Labels
pub mod Places
