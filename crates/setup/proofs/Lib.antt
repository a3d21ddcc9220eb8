pub mod Every
pub mod Admissions
