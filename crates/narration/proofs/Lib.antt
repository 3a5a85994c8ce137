pub mod EachEntry
pub mod Whole
pub mod WordKeys
