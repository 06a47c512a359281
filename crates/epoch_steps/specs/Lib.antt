-- What the contracts of `epoch_steps` cite.
pub mod Answers
pub mod Refusals
pub mod Steps
pub mod Faithful
