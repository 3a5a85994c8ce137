pub mod Image
pub mod Changed
