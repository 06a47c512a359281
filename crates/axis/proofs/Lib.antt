-- Laws over the crate's definitions.
pub mod Agreement
pub mod Sums
pub mod SampleParts
pub mod Places
pub mod Held
pub mod Sound
pub mod Points
pub mod Kept
