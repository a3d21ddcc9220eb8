pub mod Opening
pub mod Sums
