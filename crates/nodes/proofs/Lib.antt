pub mod Padding
pub mod Cutting
pub mod Spelling
pub mod Writing
pub mod Sorting
pub mod Reading
pub mod Pieces
pub mod Placing
