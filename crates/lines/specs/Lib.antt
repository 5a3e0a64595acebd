-- The definitions of crate `lines`, in reading order.
pub mod Log
pub mod Pieces
pub mod Calls
