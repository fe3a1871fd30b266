pub mod First
pub mod Broken
