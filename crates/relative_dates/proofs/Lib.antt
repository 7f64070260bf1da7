pub mod CivilLemmas
pub mod FirstLemmas
pub mod MonthLemmas
pub mod OffsetLemmas
pub mod OrderLemmas
pub mod StepLemmas
pub mod ReadingLemmas
