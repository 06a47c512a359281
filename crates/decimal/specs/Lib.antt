-- What the contracts of `decimal` cite (`Units`, `Text`, `Reading`), and figures (`Figures`). The laws are in `proofs/`.
pub mod Units
pub mod Text
pub mod Reading
pub mod Figures
