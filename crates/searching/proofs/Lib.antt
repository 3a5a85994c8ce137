pub mod Choosing
pub mod ReadValues
pub mod Heads
pub mod Picking
pub mod Descending
pub mod Onwards
pub mod Leaves
pub mod Chained
