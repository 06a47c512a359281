-- Laws over the crate's definitions: what holds on every coordinate (`Coordinates`) and of the six values (`Values`), what a record that holds
-- is known to be (`Rules`), that the records of the calls hold (`Kept`), where they stand (`Present`), and how far two points are apart (`Apart`).
pub mod Coordinates
pub mod Values
pub mod Rules
pub mod Kept
pub mod Present
pub mod Apart
