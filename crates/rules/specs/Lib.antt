-- What a reader must believe, in the order and the words of document 01. Laws stand elsewhere, and so does code.
pub mod Limits
pub mod Sum
pub mod Crossing
pub mod Placement
pub mod Walk
pub mod Rail
pub mod Starred
pub mod Numbers
pub mod Search
pub mod Pair
pub mod Count
pub mod Sheet
pub mod Next
pub mod Read
pub mod Write
pub mod Text
pub mod Line
