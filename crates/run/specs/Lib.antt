-- The definitions of crate `run`, in reading order.
pub mod Adapter
pub mod Book
pub mod Run
pub mod Claim
pub mod Sentences
pub mod Card
pub mod Late
pub mod Filler
pub mod Coasting
