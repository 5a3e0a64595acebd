-- The laws of the check value, and what they and the functions' proofs are made of.
pub mod Xor
pub mod Bits
pub mod Nibbles
pub mod Turns
pub mod Laws
pub mod Generator
pub mod Sealing
