-- From code to the walk, and from the walk to the search.
pub mod Answers
pub mod ByTables
