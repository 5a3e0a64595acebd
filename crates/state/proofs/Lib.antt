-- The laws of crate `state`, in the order in which they build on each other.
pub mod Profiles
pub mod Sound
