pub mod FreeLists
pub mod EmptyPages
