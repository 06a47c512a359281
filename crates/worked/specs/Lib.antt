-- Worked calls: what the tables are written with, and the tables.
pub mod Shown
pub mod Filled
pub mod Starting
pub mod Refused
pub mod Steps3
pub mod Steps9
pub mod Rounds3
pub mod Rounds9
pub mod Table
