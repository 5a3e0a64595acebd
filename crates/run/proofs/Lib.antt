-- The laws of crate `run`, in the order in which they build on each other.
pub mod Congruence
pub mod Follow
pub mod Steps
pub mod Run
pub mod Sentences
pub mod Card
pub mod Filler
pub mod Late
pub mod Coasting
pub mod Examples
