-- What the contracts inside this crate cite: the parts of a line that are written one after another.
pub mod Parts
pub mod Told
