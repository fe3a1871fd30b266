pub mod Forming
pub mod Normalising
