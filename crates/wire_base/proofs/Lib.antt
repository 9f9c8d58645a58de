pub mod ChecksumLemmas
