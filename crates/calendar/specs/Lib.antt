-- What the contracts of `calendar` cite (`Calendar`, `Text`), and figures (`Figures`). The theorems are in `proofs/`.
pub mod Calendar
pub mod Text
pub mod Figures
