-- Laws over the crate's definitions: pieces up to the end of a line (`ToTheEnd`), the array that they fill (`Filled`), what an image saved into room holds (`Saved`),
-- and how long the lines are (`Lengths`).
mod ToTheEnd
mod Filled
mod Saved
pub mod Lengths
