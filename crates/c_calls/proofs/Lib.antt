pub mod Logs
pub mod Refusing
pub mod Running
