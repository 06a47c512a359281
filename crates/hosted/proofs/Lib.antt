-- Laws over the crate's definitions: no call on a record has the number 14 (`Numbers`), the records that the calls leave have their shape (`Left`),
-- one call (`Each`), calls one after the other (`Any`), what the promises say of them (`Kept`), and calls worked out (`Figures`). `Theorems` collects what is proved.
pub mod Numbers
pub mod Left
pub mod Each
pub mod Any
pub mod Kept
pub mod Figures
pub mod Theorems
