pub mod OutputLemmas
pub mod CanonLemmas
pub mod DigestLemmas
pub mod SpanLemmas
pub mod MeasureLemmas
pub mod ExtentLemmas
pub mod MarkLemmas
pub mod LengthLemmas
