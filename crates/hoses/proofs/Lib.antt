-- The laws of bits that rows of bits use everywhere.
pub mod Bits
mod Adding
