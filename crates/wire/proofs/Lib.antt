-- The laws of crate `wire`, in the order in which they build on each other.
pub mod Tests
pub mod Puts
pub mod Numbers
pub mod Bytes
pub mod Refusals
