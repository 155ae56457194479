pub mod Arguments
pub mod Words
pub mod Commands
pub mod FitsLine
pub mod LineText
pub mod ReadLine
pub mod LineLaws
pub mod ShownText
