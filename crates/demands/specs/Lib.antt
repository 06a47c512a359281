-- The demands of the order: first the words that they are said in, then the demands, the bad versions and what is proved.
pub mod Coordinates
pub mod Histories
pub mod Records
pub mod Refusals
pub mod Held
pub mod Before
pub mod ClosedForm
pub mod Demands
pub mod Fractions
pub mod BadVersions
pub mod Theorems
