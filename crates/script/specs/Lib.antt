-- What the contracts of `script` cite: the words of a line (`Words`), pieces up to its end (`Series`), bytes as digits (`Bytes`),
-- a record (`Records`) and a call (`Calls`, of a run `Runs`) read from a line, and the lines that are written (`Lines`).
pub mod Words
pub mod Series
pub mod Bytes
pub mod Records
pub mod Calls
pub mod Runs
pub mod Lines
