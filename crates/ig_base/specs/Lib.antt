pub mod Numbers
pub mod formers
pub mod Hashes
pub mod Frames
pub mod Headers
