-- The definitions of crate `slave`, in reading order.
pub mod Answer
pub mod Step
pub mod Gap
pub mod Calls
pub mod Ways
pub mod Limit
