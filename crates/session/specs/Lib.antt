-- What the contracts of `session` cite.
pub mod Numbers
pub mod Coordinates
pub mod Values
pub mod Moves
pub mod Apart
pub mod Requests
pub mod Holding
pub mod Ready
