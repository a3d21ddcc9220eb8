pub mod Slots
pub mod Tables
pub mod Finds
pub mod Edits
pub mod Lowest
pub mod Counts
