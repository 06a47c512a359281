-- Laws over the crate's definitions: the first bytes of a buffer (`Said`), a text that was read (`Texts`), and the rooms of a mending (`Rooms`).
mod Said
mod Texts
mod Rooms
