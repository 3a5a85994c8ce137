pub mod Sorts
pub mod Layout
pub mod Few
pub mod Readings
pub mod Meanings
pub mod Codec
pub mod PageLaws
