-- What is said in specs/, shown. `Theorems` and `Examples` collect what is shown.
pub mod Telescope
pub mod Changes
pub mod Sizes
pub mod Names
pub mod Values
pub mod Ours
pub mod One
pub mod Examples
pub mod Theorems
pub mod Promise
