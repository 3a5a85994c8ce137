pub mod Holding
pub mod Caching
