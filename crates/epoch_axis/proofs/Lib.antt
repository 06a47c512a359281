-- Laws over the crate's definitions.
pub mod Room
pub mod Kept
pub mod Started
