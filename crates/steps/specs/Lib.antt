-- What the contracts of `steps` cite, what its laws say in these words, and the figures.
pub mod Answers
pub mod Opening
pub mod Refusals
pub mod Unagreed
pub mod Steps
pub mod Faithful
pub mod Figures
