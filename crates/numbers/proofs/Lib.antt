pub mod Back
pub mod Canonical
pub mod Groups
pub mod Written
