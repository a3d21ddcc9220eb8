pub mod Pushed
pub mod Rooms
pub mod Runs
