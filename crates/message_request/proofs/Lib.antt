-- Laws over the crate's definitions: the numbers of a point (`Numbers`), the points one after another (`Kept`),
-- and what the names and the value of an edition are of the text (`Within`).
mod Numbers
mod Kept
pub mod Within
