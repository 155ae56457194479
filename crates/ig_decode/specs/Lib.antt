pub mod ReaderAnswers
pub mod ArrayAt
pub mod Exactness
pub mod FooterForms
pub mod ObjectAnswers
pub mod FieldsAnswers
pub mod DecodeAnswers
pub mod TextAnswers
