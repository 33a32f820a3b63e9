pub mod Counting
pub mod Rule
pub mod Passes
