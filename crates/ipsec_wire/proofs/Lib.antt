pub mod AhLemmas
pub mod ByteLemmas
pub mod EspLemmas
