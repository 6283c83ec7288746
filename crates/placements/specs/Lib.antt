-- What the rows of bits say: the relation that they hold.
pub mod Rows
pub mod Sides
