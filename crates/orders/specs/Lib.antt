-- What the contracts inside this crate cite beside the rules.
pub mod Entries
pub mod Told
