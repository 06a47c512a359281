-- The tables hold.
pub mod Pieces
pub mod Nine
pub mod Table
