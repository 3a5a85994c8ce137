pub mod Layout
pub mod Reading
pub mod Opening
pub mod Walking
pub mod Rows
pub mod Exactly
pub mod Reversal
pub mod KeyCheck
