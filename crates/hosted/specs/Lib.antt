-- Calls from C one after the other on one image, and what is proved of them.
pub mod Runs
pub mod Figures
pub mod Theorems
