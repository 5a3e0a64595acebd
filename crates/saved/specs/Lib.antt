-- The definitions of crate `saved`, in reading order.
pub mod Layout
pub mod Block
pub mod Older
