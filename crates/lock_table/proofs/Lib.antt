pub mod Each
pub mod Tables
pub mod Says
pub mod Asking
pub mod OnRow
pub mod Listing
pub mod Popping
