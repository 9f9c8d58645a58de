pub mod MemorySource
pub mod Source
pub mod SureSource
