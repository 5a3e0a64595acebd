-- The definitions of crate `inserting`, in reading order.
pub mod Settings
pub mod Records
pub mod Pieces
pub mod Calls
