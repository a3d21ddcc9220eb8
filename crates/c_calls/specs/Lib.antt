pub mod Faults
pub mod Numbers
pub mod Policies
pub mod Setups
pub mod Runs
