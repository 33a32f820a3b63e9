pub mod Above
pub mod Costs
pub mod Digits
pub mod Floor
pub mod Nearest
pub mod Places
