-- Laws over the crate's definitions: the first of a list (`First`), the reason of each number (`Numbers`), and differences (`Backward`).
pub mod First
pub mod Numbers
pub mod Backward
