pub mod EndingLemmas
pub mod HeardLemmas
pub mod MessageLemmas
pub mod PlanLemmas
pub mod SpanLemmas
