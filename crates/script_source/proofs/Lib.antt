pub mod MemorySourceLemmas
pub mod PieceLemmas
