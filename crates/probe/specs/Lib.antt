-- The definitions of crate `probe`, in reading order.
pub mod Flat
