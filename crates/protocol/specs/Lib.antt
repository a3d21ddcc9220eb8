pub mod Bytes
pub mod Refusals
pub mod Words
