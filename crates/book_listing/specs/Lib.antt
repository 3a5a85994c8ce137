pub mod Text
pub mod Writing
pub mod Worked
pub mod Whole
