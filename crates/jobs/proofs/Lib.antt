-- What a shift says of stray hoses.
pub mod Stray
