-- The definitions of crate `feed`, in reading order.
pub mod Calls
pub mod MegaFrames
pub mod Network
pub mod Program
