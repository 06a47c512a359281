-- What the contracts of `sentences` cite: a change as a decimal (`Decimals`), what is said (`Sentences`); and worked examples (`Figures`).
pub mod Decimals
pub mod Sentences
pub mod Figures
