-- Tracks, what it is that they add, and what is proved of it.
pub mod Tracks
pub mod Sums
pub mod Floats
pub mod Sessions
pub mod BadVersion
pub mod Theorems
