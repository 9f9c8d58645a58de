pub mod SentParts
pub mod SentArp
