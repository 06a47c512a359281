-- What the contracts of `oem` cite: what `oem write` writes (`Answers`), and what `oem mend` writes (`Mended`).
pub mod Answers
pub mod Mended
