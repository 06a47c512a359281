-- The laws that rest on definitions of `specs/`, in the module of the same name.
pub mod Differences
pub mod Nearest
pub mod Tests
pub mod Division
