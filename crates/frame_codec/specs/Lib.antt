pub mod Appended
pub mod Codecs
pub mod Frame
pub mod Reading
pub mod Shown
pub mod Sized
pub mod Sizes
pub mod Skimmed
