-- The definitions of crate `wire`, in reading order.
pub mod Reply
pub mod Standards
pub mod BigEndian
pub mod Signed
pub mod Put
