-- Laws over the crate's definitions: texts one after the other and tests of each (`Runs`), names, times and settings (`Formed`),
-- values of points (`Values`), how long their texts are (`Lengths`), when they are (`Seconds`), whole requests and messages (`Wholes`),
-- the answer (`Answers`), times, editions and the room (`Laws`); and that the tests decide the table of statements (`TableForms`, `Table`).
mod Runs
mod Formed
mod Values
mod Lengths
mod Seconds
mod Wholes
mod Answers
mod TableForms
pub mod Table
pub mod Laws
pub mod Figures
