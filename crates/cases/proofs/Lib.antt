-- Laws of a case's steps.
pub mod Steps
