-- What the contracts of `text` cite (`Places`, `Numbers`, `Reading`), and what a row of numbers is (`Rows`). The laws are in `proofs/`.
pub mod Places
pub mod Writes
pub mod Numbers
pub mod Reading
pub mod Rows
