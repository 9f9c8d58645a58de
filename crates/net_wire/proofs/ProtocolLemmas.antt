-- Numbers of protocols.
use Rattle.std.proofs.Common.{◌≡◌, ℕ, ◌==◌, cond, refl, arith}
use Rattle.std.proofs.lemmas.Bool.Decides.{nat_tests}
use Rattle.net_wire.specs.declared.protocol.IpProtocol.{IpProtocol}
use Rattle.net_wire.specs.declared.protocol.IpProtocol.TheVariants as protocol
use Rattle.net_wire.specs.Protocol.{ip_protocol_number, IsProtocolOfEachNumber}

-- one more number that has a name
or_else : (number k : ℕ) (named other : IpProtocol) → ip_protocol_number named ≡ k
    → ip_protocol_number other ≡ number
    → ip_protocol_number (cond (number == k) named other) ≡ number
or_else number k named other is_named is_other = grind (arith, nat_tests)

pub each_number_is_its_protocol : IsProtocolOfEachNumber
each_number_is_its_protocol number =
    or_else number 0 protocol.HopByHop _ refl
    (or_else number 1 protocol.Icmp _ refl (or_else number 2 protocol.Igmp _ refl
    (or_else number 6 protocol.Tcp _ refl
    (or_else number 17 protocol.Udp _ refl (or_else number 43 protocol.Ipv6Route _ refl
    (or_else number 44 protocol.Ipv6Frag _ refl
    (or_else number 50 protocol.IpSecEsp _ refl (or_else number 51 protocol.IpSecAh _ refl
    (or_else number 58 protocol.Icmpv6 _ refl (or_else number 59 protocol.Ipv6NoNxt _ refl
    (or_else number 60 protocol.Ipv6Opts (protocol.Unknown number) refl refl)))))))))))
