-- A run is its single calls (`Calls`), which samples it reads (`InOrder`), how it ends (`Endings`), examples (`Figures`), and all that is proved (`Theorems`).
pub mod Calls
pub mod InOrder
pub mod Endings
pub mod Figures
pub mod Theorems
