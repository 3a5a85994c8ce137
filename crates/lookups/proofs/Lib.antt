pub mod Pourings
pub mod Chains
pub mod Found
pub mod Entries
pub mod Located
pub mod Whole
