-- Laws that the tables use: of the two cross values of a pair, of a mask, of an entry of the table of costs, of the rows of masks.
pub mod BothWays
pub mod Entries
pub mod OutletSets
pub mod OutletMasks
