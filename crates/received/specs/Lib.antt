-- What the contracts of `received` cite: lines (`Lines`), the version that a text names (`Versions`), heads (`Slots`, `Profile`), data lines (`Data`), the readable messages (`Messages`),
-- what is read (`Reading`), the answer (`Answer`), what mending gives (`Mending`) and answers (`MendAnswer`),
-- and the ways there (`Finding`, `Planning`).
pub mod Lines
pub mod Versions
pub mod Slots
pub mod Profile
pub mod Data
pub mod Messages
pub mod Reading
pub mod Answer
pub mod Mending
pub mod Finding
pub mod Planning
pub mod MendAnswer
