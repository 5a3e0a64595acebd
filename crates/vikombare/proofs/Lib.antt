-- The laws of crate `vikombare`.
pub mod Clocks
