-- The definitions of crate `text`, in reading order.
pub mod Decimal
pub mod Words
pub mod Line
pub mod Rooms
pub mod Puts
