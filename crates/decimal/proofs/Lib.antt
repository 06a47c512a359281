-- What the units are (`Meaning`), what a text looks like (`Form`), that it is read back (`Back`, `SizeBack`), the laws of rounding and of digits
-- (`Rounding`, `Digits`); and what the proofs share: how large numbers are, digits read one by one, and texts with a sign and a point.
mod Sizes
mod DigitsRead
mod Texts
pub mod Back
pub mod Digits
pub mod Form
pub mod Meaning
pub mod Rounding
pub mod SizeBack
