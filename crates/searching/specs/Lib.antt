pub mod NodeReads
pub mod Descents
pub mod Chains
