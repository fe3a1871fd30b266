pub mod Emitting
pub mod Numbers
pub mod Slices
