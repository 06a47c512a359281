-- What the contracts of the entry points allow, and what follows of it for every history of such calls.
pub mod Promises
pub mod Allowed
pub mod ByValue
pub mod Runs
pub mod Theorems
