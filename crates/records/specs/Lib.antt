pub mod Buffers
pub mod Faults
pub mod Readers
pub mod Records
pub mod Tags
pub mod Tapes
