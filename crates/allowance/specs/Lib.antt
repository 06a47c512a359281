-- The single calls of a run, how a run ends, examples, and what is proved.
pub mod Calls
pub mod Endings
pub mod Figures
pub mod Theorems
