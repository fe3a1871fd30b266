pub mod View
pub mod Effects
