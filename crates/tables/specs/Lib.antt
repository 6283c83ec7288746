-- What the tables of a search hold.
pub mod Tables
