-- The definitions of crate `inserter`, in reading order.
pub mod Settings
pub mod Packet
pub mod Ready
