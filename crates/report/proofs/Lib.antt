pub mod Sizes
pub mod Printed
pub mod Examples
pub mod Reader
