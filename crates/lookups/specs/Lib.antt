pub mod Pouring
pub mod Showing
