-- The definitions of crate `notice`, in reading order.
pub mod Mip
pub mod Reader
