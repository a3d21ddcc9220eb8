pub mod Held
pub mod Log
