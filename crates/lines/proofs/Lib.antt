mod Digits
mod FromEnd
pub mod Buffers
pub mod Lengths
pub mod Written
