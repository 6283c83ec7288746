-- What the checker computes of the rules, and the largest counts.
pub mod Sums
pub mod Starred
pub mod Largest
pub mod Search
pub mod Pair
pub mod Count
pub mod Checks
pub mod Orders
pub mod Sheet
pub mod Damaged
pub mod Next
pub mod Read
pub mod Write
pub mod Decimal
pub mod LongestLine
pub mod Line
pub mod SheetLines
