pub mod Placed
