pub mod BitLaws
pub mod LockLaws
