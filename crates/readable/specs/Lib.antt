-- What is proved of messages that are read and mended (`Theorems`), and what the statements need: lines (`Lines`), the version that a text names (`Naming`), answers (`Answering`),
-- where the reader stops (`Stopping`), what C-14 sends (`Sent`), the data lines that are kept (`Keeping`), what mending does (`Changes`),
-- and texts worked out (`Figures`, and `NewFigures` of version 3.0).
pub mod Lines
pub mod Naming
pub mod Answering
pub mod Stopping
pub mod Sent
pub mod Keeping
pub mod Changes
pub mod Figures
pub mod NewFigures
pub mod Theorems
