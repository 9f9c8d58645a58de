-- The window of an IP packet: where its payload ends, and what says so (RFC 791, section 3.1; RFC 8200,
-- section 3).
use Rattle.std.specs.Prelude.{ℕ, ◌+◌, ◌==◌, nat_lt, if◌then◌else◌, List, length, Option, Some, None}
use Rattle.wire_base.specs.Bytes.{be16_at}
use Rattle.ether_link.specs.Places.{source_of_length}
use Rattle.ether_link.specs.declared.len_source.LenSource.{LenSource}
use Rattle.ether_link.specs.declared.len_source.LenSource.TheVariants.{Ipv4HeaderTotalLen, Ipv6HeaderPayloadLen}
use Rattle.ether_ip.specs.Version.{ip_version}

-- how many bytes header and payload have: a total length that has no room for the header says nothing, nor
-- does a payload length of 0
abbrev pub ipv4_announced : List ℕ → Option ℕ
ipv4_announced header = if nat_lt (be16_at header 2) (length header) then None else Some (be16_at header 2)

abbrev pub ipv6_announced : List ℕ → Option ℕ
ipv6_announced header = if be16_at header 4 == 0 then None else Some (40 + be16_at header 4)

abbrev pub ip_announced : List ℕ → Option ℕ
ip_announced header = if ip_version header == 4 then ipv4_announced header else ipv6_announced header

-- where the end of the window is from: a payload length of 0 is right where nothing follows the header
abbrev pub ip_source : List ℕ → ℕ → ℕ → LenSource
ip_source header start end =
    if ip_version header == 4 then source_of_length Ipv4HeaderTotalLen start end (ipv4_announced header)
    else (if end == start + 40
    then source_of_length Ipv6HeaderPayloadLen start end (Some (40 + be16_at header 4))
    else source_of_length Ipv6HeaderPayloadLen start end (ipv6_announced header))
