pub mod Rows
pub mod Lists
pub mod Held
pub mod Released
pub mod Asked
