-- The definitions of crate `judging`, in reading order.
pub mod Judgement
pub mod Judge
