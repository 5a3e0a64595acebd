-- The laws of crate `writer`, in the order in which they build on each other.
pub mod Writing
pub mod Front
pub mod RoundTrip
