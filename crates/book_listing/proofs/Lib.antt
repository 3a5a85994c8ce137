pub mod Cutting
pub mod Texts
pub mod Judged
pub mod Examples
pub mod Wholly
