-- What the contracts of `axis` cite.
pub mod Kinds
pub mod Formulas
pub mod Parts
pub mod Estimates
pub mod Agreement
pub mod Holding
pub mod Ready
