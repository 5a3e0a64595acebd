-- The definitions of crate `addressing`, in reading order.
pub mod Functions
pub mod Entries
