-- What the contracts of `epoch_session` cite.
pub mod Rounds
pub mod Records
pub mod Ready
