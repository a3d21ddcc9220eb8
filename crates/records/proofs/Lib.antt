pub mod Buffers
pub mod Contents
pub mod Fields
pub mod Records
pub mod Tapes
pub mod Whole
