-- Laws over the crate's definitions: what is known of a call that nothing refuses (`Refusals`), the rules of samples (`Samples`), what each call gives by its number (`Results`), the answers (`Answers`, `Changes`, `Faithful`),
-- the records that the calls leave (`Left`), what an opening is given (`Given`), and H1 to H10 (`Figures`).
pub mod Samples
pub mod Refusals
pub mod Results
mod Corrected
pub mod Answers
pub mod Changes
pub mod Faithful
pub mod Given
pub mod Left
pub mod Figures
