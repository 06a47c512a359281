-- The laws of writing (`Pieces`) and of digits (`Digits`), that what was printed is read back (`Back`, `DecimalBack`, `HexBack`), and laws over the
-- crate's definitions of what is read.
mod Decimals
pub mod Signs
mod Hexadecimals
pub mod Back
pub mod DecimalBack
pub mod Digits
pub mod HexBack
pub mod Pieces
pub mod Written
