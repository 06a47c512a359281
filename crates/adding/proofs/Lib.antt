-- What is said of tracks that add, shown: the closed form is linear, point n is the closed form's of the samples up to n, and so tracks add.
pub mod Linear
pub mod UpTo
pub mod Points
pub mod Added
pub mod Requests
pub mod Floats
pub mod Sessions
pub mod Slips
pub mod Theorems
