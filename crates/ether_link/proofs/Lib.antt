pub mod CutLemmas
pub mod FormLemmas
pub mod LayoutLemmas
pub mod LinkLemmas
mod MacsecLemmas
pub mod MapLemmas
pub mod PlaceLemmas
pub mod RangeLemmas
pub mod WalkLemmas
