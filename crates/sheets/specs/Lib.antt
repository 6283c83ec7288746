-- What an answer tells in the numbers of the rules; and words of the functions inside the crate.
pub mod Told
pub mod Found
pub mod Writing
