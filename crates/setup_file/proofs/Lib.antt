pub mod Comments
pub mod Items
pub mod Lines
pub mod Numbers
pub mod Pieces
pub mod Spelling
pub mod Standing
pub mod Writing
