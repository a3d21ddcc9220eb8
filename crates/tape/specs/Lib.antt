pub mod FourCells
pub mod Records
pub mod Runs
