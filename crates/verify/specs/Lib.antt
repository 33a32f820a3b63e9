pub mod Met
pub mod Report
pub mod Seen
pub mod Sizes
pub mod Walked
