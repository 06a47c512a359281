-- What the contract of a run cites, and for the way a sample is taken `Readied`.
pub mod Samples
pub mod Runs
pub mod Readied
pub mod Bound
