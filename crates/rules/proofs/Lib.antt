-- What is known where tests were made in order (`Tests`), and the laws between the readings of a list of statements (`Readings`).
pub mod Readings
pub mod Tests
