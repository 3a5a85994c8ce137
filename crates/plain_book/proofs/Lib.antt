pub mod Positions
pub mod Accounts
pub mod Places
pub mod LineByLine
pub mod Lookups
pub mod Listings
