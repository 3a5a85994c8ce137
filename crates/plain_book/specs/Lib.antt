pub mod Accounts
pub mod Kept
pub mod Places
pub mod Lines
pub mod Answers
pub mod Printing
