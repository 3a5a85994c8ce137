pub mod Letters
pub mod Tokens
pub mod Turns
