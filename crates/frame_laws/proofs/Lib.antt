pub mod PartLemmas
pub mod HeaderLemmas
pub mod DatagramLemmas
pub mod SentLemmas
pub mod ArpLemmas
