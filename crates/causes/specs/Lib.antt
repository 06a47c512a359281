-- What it is that an explanation names the cause, what a first correction changes by, bad versions, figures, what is proved, and the contract of `explain`.
pub mod Causes
pub mod Changes
pub mod BadVersions
pub mod Figures
pub mod Theorems
pub mod Promise
