-- What the contracts of `epoch_axis` cite.
pub mod Formulas
