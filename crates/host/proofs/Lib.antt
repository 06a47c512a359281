-- Laws over the crate's definitions: how long answers are (`Lengths`), what the state says of a record that an image holds (`States`), floats (`Floats`), and what a call from C leaves, by what it looked at (`Made`).
mod Lengths
mod States
mod Floats
mod Made
