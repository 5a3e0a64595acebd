-- The definitions of crate `cadence`, in reading order.
pub mod Cadence
pub mod Label
pub mod MobileFrame
