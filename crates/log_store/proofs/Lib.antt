pub mod Appends
pub mod Checkpoints
pub mod LogLaws
pub mod Numbers
pub mod Sizes
pub mod Sound
pub mod Places
pub mod Written
