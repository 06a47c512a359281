-- What is said in specs/, shown.
pub mod Contracts
pub mod ByValue
pub mod Runs
pub mod Theorems
