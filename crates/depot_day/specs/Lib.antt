pub mod Making
pub mod Messages
pub mod Reports
pub mod Runs
