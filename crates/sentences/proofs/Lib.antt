-- Laws over the crate's definitions: sizes, and that a rest is shown as one (`Sizes`), digits (`Digits`), texts that a test decides (`Texts`),
-- a place without a word (`NoWord`), and what is said with a number (`Numbers`).
pub mod Sizes
pub mod Digits
mod Texts
mod NoWord
mod Numbers
