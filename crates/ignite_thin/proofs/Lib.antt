pub mod WordsLemmas
pub mod PlainLemmas
pub mod DecodeLemmas
pub mod DecodeStepLemmas
