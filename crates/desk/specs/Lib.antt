pub mod Desk
pub mod Makes
pub mod Sized
pub mod Task
