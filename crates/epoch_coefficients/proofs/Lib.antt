pub mod Centre
pub mod Rows
pub mod Tied
pub mod Times
pub mod Cut
pub mod Applied
pub mod Printed
