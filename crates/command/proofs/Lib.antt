pub mod Decoding
pub mod Meeting
pub mod Sizes
pub mod Effects
pub mod Standing
