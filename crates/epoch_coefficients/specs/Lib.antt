-- What the contracts of `epoch_coefficients` cite, and the series that they are.
pub mod Series
pub mod Formulas
pub mod Printed
