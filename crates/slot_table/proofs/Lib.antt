pub mod SlotLists
pub mod Searches
pub mod Invariants
pub mod Opening
pub mod Ending
pub mod Changing
pub mod Aborting
pub mod Lowest
