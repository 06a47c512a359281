-- What the contracts of `drawing` cite.
pub mod Draws
