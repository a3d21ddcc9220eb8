pub mod Objects
pub mod Searches
