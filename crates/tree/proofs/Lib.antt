pub mod Tallies
pub mod Highest
pub mod Everywhere
pub mod Fitting
pub mod Uniqueness
pub mod Rising
pub mod Textbook
pub mod Emptiness
