-- The definitions of crate `writer`, in reading order.
pub mod Writable
pub mod Writer
