pub mod Books
pub mod Merging
pub mod Entries
pub mod Looking
pub mod LookingLaws
pub mod Laws
pub mod Examples
