-- Laws over the crate's definitions: patterns of floats (`Patterns`), a word's eight bytes (`Eight`), a number with its sign as a word (`Signs`), words put one behind the other (`Puts`);
-- the numbers of a record fit their words (`Fitting`), what is saved of it (`Stands`), words at a place of bytes (`Said`), the bodies and the table (`Bodies`),
-- a record read back (`Back`), images (`Images`, `Figures`), the records that the calls leave (`Left`), lengths (`Lengths`) and bytes of words (`WordLaws`). `Theorems` collects what is proved.
mod Patterns
mod Eight
pub mod Puts
mod Signs
pub mod Fitting
pub mod Stands
pub mod Said
pub mod Bodies
pub mod Back
pub mod Images
pub mod Figures
pub mod Left
pub mod Theorems
pub mod Lengths
pub mod WordLaws
