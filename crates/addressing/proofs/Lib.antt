-- The laws of crate `addressing`, in the order in which they build on each other.
pub mod Turns
pub mod Form
pub mod Both
