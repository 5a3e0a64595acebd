-- The definitions of crate `state`, in reading order.
pub mod Profile
pub mod Slave
pub mod Sound
