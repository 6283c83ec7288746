-- What follows from the rules, one file a theorem; code is never mentioned.
-- Open `Promises` first: what demands 2 and 3 say of every rail and every budget. `Terms` has the three words that the laws use and the rules do not.
pub mod Promises
pub mod Terms
-- Why the base costs nothing: cross values, moving past a block (E), a safe relation (S), and that the base is one.
pub mod Cross
pub mod Moving
pub mod Blocks
pub mod Safe
pub mod Base
-- Why the walk answers: what a placement brings, what an opened case does, the order made, crossings as a sum over pairs, soundness (D),
-- completeness (C), and the bound on the cases (F).
pub mod Placing
pub mod Choice
pub mod Made
pub mod Pairs
pub mod Sound
pub mod Complete
pub mod Finds
pub mod Bound
-- What the walk need not look at: levels above the rest, outlets that are not on the rail, a case with nothing left to spend and a pair unplaced.
pub mod Levels
pub mod Below
pub mod Leaf
-- What an order is, and its crossings counted hose against hose.
pub mod Orders
pub mod Stands
pub mod HoseAgainstHose
-- Tools: tests, and rows of outlet numbers. (Those of sums stand beside the rules.)
pub mod Tests
pub mod Lists
