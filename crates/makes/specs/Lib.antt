pub mod OrderLaws
pub mod Orders
pub mod Stores
