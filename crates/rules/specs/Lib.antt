-- What refuses a call (`Reasons`); ordered rules: their two forms and what ties them (`Rules`), and what a number says of tests that were made in order (`Tests`).
pub mod Reasons
pub mod Rules
pub mod Tests
