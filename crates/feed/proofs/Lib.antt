-- The laws of crate `feed`, in the order in which they build on each other.
pub mod Lists
pub mod Steps
pub mod Sending
pub mod Places
pub mod Hearing
pub mod Network
pub mod Program
pub mod Examples
