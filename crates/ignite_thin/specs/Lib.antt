pub mod Words
pub mod Statuses
pub mod Decodes
pub mod Plain
