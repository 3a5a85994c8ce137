pub mod Filling
pub mod Windows
pub mod Readable
pub mod Walks
pub mod Between
