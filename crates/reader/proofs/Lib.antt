pub mod Applying
pub mod Reading
