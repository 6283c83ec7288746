-- What the check of an order and the count go by.
pub mod Entries
pub mod Paid
