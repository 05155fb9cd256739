pub mod Classes
pub mod Counts
pub mod Cuts
pub mod Digits
pub mod Labels
pub mod Storage
