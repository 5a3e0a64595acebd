-- The decoder of TS 101 191 annex A.
pub mod Register
