-- The definitions of crate `vikombare`, in reading order.
pub mod Flat
