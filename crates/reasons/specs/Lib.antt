-- What the contracts of `reasons` cite.
pub mod Reasons
pub mod Differences
pub mod Explanations
