pub mod GrantLemmas
pub mod MadeLemmas
pub mod OneLemmas
pub mod ScriptLemmas
pub mod SentLemmas
pub mod SomeLemmas
