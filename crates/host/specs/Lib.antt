-- What the contracts of `host` cite.
pub mod Answers
pub mod Samples
pub mod Calls
