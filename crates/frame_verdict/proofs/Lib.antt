pub mod CarriedLemmas
pub mod IdleLemmas
pub mod SpokenLemmas
pub mod DecidedLemmas
pub mod TickedLemmas
