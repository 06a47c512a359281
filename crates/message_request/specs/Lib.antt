-- What the contracts of `message_request` cite: a line of a text (`Lines`), the points (`Points`), and the whole request (`Requests`).
-- Beside them what it is that its names are parts of the text (`Within`).
pub mod Lines
pub mod Points
pub mod Requests
pub mod Within
