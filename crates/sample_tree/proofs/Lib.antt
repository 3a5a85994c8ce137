pub mod Testing
pub mod Pictured
pub mod Refuting
pub mod Refuted
