-- The laws of crate `judging`, in the order in which they build on each other.
pub mod Judging
pub mod Taking
pub mod Arrived
