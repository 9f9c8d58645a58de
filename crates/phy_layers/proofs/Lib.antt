pub mod SinkLemmas
pub mod WriterLemmas
pub mod FaultLemmas
pub mod LayerLemmas
pub mod CallLemmas
pub mod MemorySinkLemmas
