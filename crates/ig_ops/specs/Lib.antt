pub mod Requests
pub mod Results
pub mod Views
pub mod PageMarks
pub mod ReadAnswers
pub mod Laws
