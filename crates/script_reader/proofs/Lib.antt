pub mod CutRestLemmas
pub mod ReadingLemmas
pub mod RestLemmas
