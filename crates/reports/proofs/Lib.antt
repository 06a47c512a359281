-- Laws over the crate's definitions: the line of a point and of a change by its number (`Lines`), and what is printed by a number (`Cases`).
mod Lines
mod Cases
pub mod Printed
