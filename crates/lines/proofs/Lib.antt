-- The laws behind the proofs of this crate.
pub mod Laws
pub mod Fits
pub mod Made
