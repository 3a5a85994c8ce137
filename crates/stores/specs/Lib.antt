pub mod Slots
pub mod FormLaws
pub mod Memories
pub mod Stripes
