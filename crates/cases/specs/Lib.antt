-- What the functions over cases ask and answer.
pub mod Case
