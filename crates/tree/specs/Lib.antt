pub mod Trees
pub mod Valid
pub mod Heights
pub mod Counts
pub mod Unique
pub mod Textbook
pub mod Empty
