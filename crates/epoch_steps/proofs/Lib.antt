-- Laws over the crate's definitions: the answers (`Answered`), their places (`Places`), what each call gives by its number and what is known where
-- nothing refuses it (`Refusals`), what a round is given (`Given`), the rounds that are compared (`Compared`), the records that the calls leave (`Left`),
-- the change of a later round (`Changes`), and that every value stands beside its report (`Faithful`).
pub mod Answered
pub mod Places
pub mod Refusals
pub mod Given
pub mod Compared
pub mod Left
pub mod Changes
pub mod Faithful
