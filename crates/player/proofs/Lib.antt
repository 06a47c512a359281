-- What more than one proof of the crate cites: the room of a line that is written (`Written`),
-- how long a sentence is (`Sentences`), and that its change is exact (`Reasons`).
mod Written
mod Sentences
mod Reasons
