pub mod SizeLemmas
pub mod RunLemmas
pub mod StampLemmas
pub mod MemoryLemmas
