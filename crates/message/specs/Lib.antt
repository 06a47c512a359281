-- What the contracts of `message` cite: the editions (`Editions`), the request (`Request`), the text of its message (`Message`), the form of a name (`Form`),
-- the refusals in order (`Refusals`), the answer (`Answer`), and for the way it is written lengths (`Measures`) and parts (`Parts`).
-- Beside them the refusals once more as statements (`Table`).
pub mod Editions
pub mod Request
pub mod Message
pub mod Form
pub mod Refusals
pub mod Answer
pub mod Measures
pub mod Parts
pub mod Table
