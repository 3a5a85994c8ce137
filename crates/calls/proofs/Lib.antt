pub mod Worked
pub mod Spelled
pub mod Reversing
pub mod Accepting
pub mod Carrying
pub mod Joining
