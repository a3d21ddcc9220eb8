pub mod Openings
pub mod Adding
