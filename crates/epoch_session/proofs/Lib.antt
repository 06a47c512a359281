-- Laws over the crate's definitions: tests at every point (`Below`), the arithmetic is safe (`Ready`), what the points of a round are and how far two rounds are apart
-- (`Points`), what a starting record is known to be (`Rules`), and that the records that rounds leave keep the rules (`Kept`).
pub mod Below
pub mod Ready
pub mod Points
pub mod Rules
pub mod Kept
