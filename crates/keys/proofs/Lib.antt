pub mod Orders
pub mod Ranks
pub mod Worked
pub mod Lexical
pub mod Walks
pub mod EveryDay
pub mod OrdersSaid
