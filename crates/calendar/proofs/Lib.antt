-- The laws of sums and of the calendar (`Sums`, `Years`), and the theorems: real moments are in the order of their seconds (`Order`), each number of
-- seconds is that of one (`Moments`), and so is each text (`Back`, over `Texts`).
mod Texts
pub mod Back
pub mod Moments
pub mod Order
pub mod Sums
pub mod Years
