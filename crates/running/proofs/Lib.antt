-- Laws over the crate's definitions: the samples of a slice (`Read`), what stays true of a session in a run (`Kept`), how a sample is taken (`Readied`), how a run goes on (`On`),
-- and that it stays within its allowance (`Bound`).
pub mod Read
pub mod Kept
pub mod Readied
pub mod On
pub mod Bound
