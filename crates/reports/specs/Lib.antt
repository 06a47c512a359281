-- What the contracts of `reports` cite: the text that is printed (`Reports`). Beside it laws of what rooms hold (`Rooms`), how long
-- the texts are at most (`Lengths`), laws of what is printed of what the reader answers (`Heads`, `DataLines`, `Known`; `Printed` in `proofs/`),
-- what is listed of a mending (`Listed`), and worked examples (`Figures`).
pub mod Reports
pub mod Rooms
pub mod Lengths
pub mod Heads
pub mod DataLines
pub mod Known
pub mod Listed
pub mod Figures
