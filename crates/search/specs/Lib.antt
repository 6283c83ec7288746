-- What the search's own functions answer.
pub mod Walked
pub mod Told
