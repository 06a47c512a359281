-- Laws over the crate's definitions: the first newline (`Newlines`), a text and its lines (`Cuts`), walks over slots (`Walks`), the version that a text names (`Naming`), a line by its front (`Fronts`), which slot has which
-- form (`Dispatch`), times (`Times`), the fields of a data line (`Fields`), data lines one after another (`Scans`), a head that is read (`Reached`, `Headed`),
-- a data line beside its point (`Points`, `Datums`), groups of lines beside the message that they say (`Groups`), what is read is there (`Sound`),
-- the rooms that points fill (`Keeps`), what is found in a whole text (`Judges`), and the answer (`Answers`). Of mending: the lines that are kept
-- and dropped (`Surveys`), a line that is taken or not (`Turns`), what is planned before anything is written (`Plans`), and the answer (`Mends`).
mod Newlines
mod Cuts
mod Walks
mod Naming
mod Fronts
mod Dispatch
mod Times
mod Fields
mod Scans
mod Reached
mod Headed
mod Points
mod Datums
mod Groups
mod Sound
mod Keeps
mod Judges
mod Answers
mod Surveys
mod Turns
mod Plans
mod Mends
