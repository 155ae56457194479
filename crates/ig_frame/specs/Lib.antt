pub mod Streams
pub mod Shows
pub mod Finds
