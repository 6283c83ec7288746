-- Laws that belong to no one function: bits read as tests, what rows read, what a placement brings, rows that grow, what rows cost,
-- the pair that a case takes, the order in the making, the base by the sets of a pair, and rows that come to hold it.
pub mod Masks
pub mod Reading
pub mod Closing
pub mod Leaving
pub mod Copying
pub mod Growing
pub mod Paying
pub mod Choosing
pub mod Standing
pub mod Basing
pub mod Putting
