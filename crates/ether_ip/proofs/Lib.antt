pub mod ChainLemmas
pub mod CutPacketLemmas
mod ExtLemmas
pub mod HeadersLemmas
pub mod HeldLemmas
pub mod IpLemmas
pub mod PacketLemmas
pub mod TransportLemmas
pub mod WalkLemmas
