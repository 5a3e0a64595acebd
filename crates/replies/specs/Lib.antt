-- The definitions of crate `replies`.
pub mod Flat
