pub mod Refusals
pub mod Printing
