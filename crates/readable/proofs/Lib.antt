-- Laws over the definitions of `received`: lines (`Lines`), their forms (`Forms`) and walks over them (`Walks`), the numbers of a data line (`Fields`), its point (`Points`),
-- data lines one after another (`Runs`), heads (`Heads`), that every line ends once (`Ended`), and what becomes of lines (`Outcomes`).
-- By these: what is read (`Readers`), the places and the answers (`Placing`, `Answers`), where it stops (`Stopping`), mending (`Mending`, `Listing`, `Changing`, `Unmendable`, `MendAnswers`), the two editions (`Naming`, `Editions`), what C-14 sends (`Units`, `Series`, `Sent`),
-- and examples (`Bytes`, `Figures`, `NewFigures`). `Theorems` collects what is proved.
pub mod Lines
pub mod Forms
pub mod Walks
pub mod Fields
pub mod Points
pub mod Runs
pub mod Naming
pub mod Heads
pub mod Ended
pub mod Outcomes
pub mod Readers
pub mod Placing
pub mod Answers
pub mod Stopping
pub mod Mending
pub mod Listing
pub mod Changing
pub mod Unmendable
pub mod MendAnswers
pub mod Editions
pub mod Units
pub mod Series
pub mod Sent
pub mod Bytes
pub mod Figures
pub mod NewFigures
pub mod Theorems
