-- The definitions of crate `times`, in reading order.
pub mod Whole
pub mod Release
pub mod Answer
