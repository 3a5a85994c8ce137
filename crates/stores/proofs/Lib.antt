pub mod Parts
pub mod Slots
pub mod Sealing
pub mod Striped
