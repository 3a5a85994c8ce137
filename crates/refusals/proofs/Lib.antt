pub mod Answering
pub mod Apart
