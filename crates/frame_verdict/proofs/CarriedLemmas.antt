-- What a frame brings is the datagram that it carries, and it is an ARP packet that counts where it tells of one.
use Rattle.std.proofs.Common.{◌≡◌, ℕ, Bool, true, false, not, cond, List, drop, length, nat_le, Option, Some, None, Ok, Err, refl, ap, arith, ◌∙◌}
use Rattle.std.specs.Prelude.{◌&&◌, ◌==◌, ◌≤◌, slice_index, take}
use Rattle.std.specs.Result.{result_ok}
use Rattle.std.proofs.lemmas.Bool.{eqb-true}
use Rattle.wire_base.specs.Bytes.{be16_at}
use Rattle.net_wire.specs.declared.address.EthernetAddress.{EthernetAddress}
use Rattle.net_wire.specs.declared.address.Ipv4Address.{Ipv4Address}
use Rattle.net_wire.specs.declared.arrival.Sources.TheVariants.{Unicast}
use Rattle.net_wire.specs.declared.arp.ArpRepr.{ArpRepr}
use Rattle.net_wire.specs.Arp.{arp_at, arriving_arp, is_from_host}
use Rattle.net_wire.specs.Arrival.{arriving_datagram, body_of, datagram_with, has_right_sum, has_udp, ip_header_len, is_for, is_packet, is_unfragmented, packet_datagram, sums_to_zero, udp_datagram}
use Rattle.net_wire.specs.Datagram.{Datagram}
use Rattle.net_wire.specs.DhcpRead.{address_at}
use Rattle.net_wire.specs.Unicast.{is_unicast}
use Rattle.frame_verdict.specs.declared.verdict.Reason.{Reason}
use Rattle.frame_verdict.specs.declared.verdict.Reason.TheVariants as reason
use Rattle.frame_verdict.specs.declared.verdict.Verdict.{Verdict}
use Rattle.frame_verdict.specs.BroughtValue.{otherwise}
use Rattle.frame_verdict.specs.Brought.{Brought, brought_by, brought_by_arp, brought_by_packet, brought_by_udp, ignored}

by_two : (b₁ b₂ : Bool) (w₁ w₂ : Reason) (datagram : Datagram)
    → result_ok (cond (not b₁) (ignored w₁) (cond (not b₂) (ignored w₂) (Ok datagram)))
    ≡ cond (b₁ && b₂) (Some datagram) None
by_two false b₂ w₁ w₂ datagram = refl
by_two true false w₁ w₂ datagram = refl
by_two true true w₁ w₂ datagram = refl

by_five : (b₁ b₂ b₃ b₄ b₅ : Bool) (w₁ w₂ w₃ w₄ w₅ : Reason) (brought : Brought) (found : Option Datagram)
    → result_ok brought ≡ found
    → result_ok (cond (not b₁) (ignored w₁) (cond (not b₂) (ignored w₂) (cond (not b₃) (ignored w₃)
    (cond (not b₄) (ignored w₄) (cond (not b₅) (ignored w₅) brought)))))
    ≡ cond (b₁ && (b₂ && b₃ && b₄ && b₅)) found None
by_five false b₂ b₃ b₄ b₅ w₁ w₂ w₃ w₄ w₅ brought found is = refl
by_five true false b₃ b₄ b₅ w₁ w₂ w₃ w₄ w₅ brought found is = refl
by_five true true false b₄ b₅ w₁ w₂ w₃ w₄ w₅ brought found is = refl
by_five true true true false b₅ w₁ w₂ w₃ w₄ w₅ brought found is = refl
by_five true true true true false w₁ w₂ w₃ w₄ w₅ brought found is = refl
by_five true true true true true w₁ w₂ w₃ w₄ w₅ brought found is = is

by_arp : (told : Option ArpRepr) → result_ok (brought_by_arp told) ≡ None
by_arp None = refl
by_arp (Some arp) = refl

by_frame : (long for_it arp ip : Bool) (told : Option ArpRepr) (w₁ w₂ w₄ : Reason) (brought : Brought)
    (found : Option Datagram) → (arp ≡ true → ip ≡ false) → result_ok brought ≡ found
    → result_ok (cond (not long) (ignored w₁) (cond (not for_it) (ignored w₂) (cond arp (brought_by_arp told)
    (cond (not ip) (ignored w₄) brought))))
    ≡ cond (long && ip && for_it) found None
by_frame false for_it arp ip told w₁ w₂ w₄ brought found apart is = refl
by_frame true false arp false told w₁ w₂ w₄ brought found apart is = refl
by_frame true false arp true told w₁ w₂ w₄ brought found apart is = refl
by_frame true true true false told w₁ w₂ w₄ brought found apart is = by_arp told
by_frame true true false false told w₁ w₂ w₄ brought found apart is = refl
by_frame true true true true told w₁ w₂ w₄ brought found apart is = (let clash = apart refl in cc)
by_frame true true false true told w₁ w₂ w₄ brought found apart is = is

-- two numbers are not one
apart : (number : ℕ) → (number == 0x0806) ≡ true → (number == 0x0800) ≡ false
apart number is = ap (λ n. n == 0x0800) (eqb-true number 0x0806 is)

udp_carried : (source destination : Ipv4Address) (body : List ℕ)
    → result_ok (brought_by_udp source destination body) ≡ udp_datagram source destination body
udp_carried source destination body =
    by_two (has_udp body) (has_right_sum source destination body) reason.Udp reason.UdpSum
    (datagram_with source destination body)

packet_carried : (packet : List ℕ) → result_ok (brought_by_packet packet) ≡ packet_datagram Unicast packet
packet_carried packet =
    by_five (is_packet packet) (sums_to_zero (take (ip_header_len packet) packet)) (is_unfragmented packet)
    (is_unicast (address_at packet 12)) (slice_index packet 9 == 17)
    reason.Cut reason.HeaderSum reason.Fragment reason.Source reason.Protocol
    (brought_by_udp (address_at packet 12) (address_at packet 16) (body_of packet))
    (udp_datagram (address_at packet 12) (address_at packet 16) (body_of packet))
    (udp_carried (address_at packet 12) (address_at packet 16) (body_of packet))

-- what a frame brings is the datagram that it carries to the station
pub is_carried : (hardware : EthernetAddress) (frame : List ℕ)
    → result_ok (brought_by hardware frame) ≡ arriving_datagram hardware frame
is_carried hardware frame =
    by_frame (nat_le 14 (length frame)) (is_for hardware frame) (be16_at frame 12 == 0x0806)
    (be16_at frame 12 == 0x0800) (arriving_arp hardware frame) reason.Short reason.Station reason.EtherType
    (brought_by_packet (drop 14 frame)) (packet_datagram Unicast (drop 14 frame))
    (apart (be16_at frame 12)) (packet_carried (drop 14 frame))

-- the packet that counts of a frame that tells of none
no_packet : (why : Reason) (told : Option ArpRepr) → brought_by_arp told ≡ ignored why → told ≡ None
no_packet why None said = refl
no_packet why (Some arp) said = (let clash = said in cc)

by_type : (long for_it whole arp spaces host : Bool) (told : ArpRepr) (w₁ w₂ : Reason) (other : Brought) (brought : Brought)
    → (whole ≡ true → long ≡ true)
    → cond (not long) (ignored w₁) (cond (not for_it) (ignored w₂)
    (cond arp (brought_by_arp (cond (whole && arp && spaces && for_it && host) (Some told) None)) other)) ≡ brought
    → ((why : Reason) → brought ≡ ignored why → cond (whole && arp && spaces && for_it && host) (Some told) None ≡ None)
by_type long for_it false arp spaces host told w₁ w₂ other brought within is why said = refl
by_type long for_it true false spaces host told w₁ w₂ other brought within is why said = refl
by_type long for_it true true false host told w₁ w₂ other brought within is why said = refl
by_type long false true true true host told w₁ w₂ other brought within is why said = refl
by_type false true true true true host told w₁ w₂ other brought within is why said = (let clash = within refl in cc)
by_type true true true true true host told w₁ w₂ other brought within is why said =
    no_packet why (cond host (Some told) None) (is ∙ said)

long_enough : (len : ℕ) → nat_le 42 len ≡ true → nat_le 14 len ≡ true
long_enough len long = grind arith

pub tells_nothing : (hardware : EthernetAddress) (frame : List ℕ) (why : Reason)
    → brought_by hardware frame ≡ ignored why → arriving_arp hardware frame ≡ None
tells_nothing hardware frame why said =
    by_type (nat_le 14 (length frame)) (is_for hardware frame) (nat_le 42 (length frame))
    (be16_at frame 12 == 0x0806) _ (is_from_host (arp_at frame)) (arp_at frame)
    reason.Short reason.Station _ (brought_by hardware frame) (long_enough (length frame)) refl why said

-- nor does one that brings a datagram
by_other : (long for_it whole arp spaces host : Bool) (told : ArpRepr) (w₁ w₂ : Reason) (other : Brought) (datagram : Datagram)
    → cond (not long) (ignored w₁) (cond (not for_it) (ignored w₂)
    (cond arp (brought_by_arp (cond (whole && arp && spaces && for_it && host) (Some told) None)) other)) ≡ Ok datagram
    → cond (whole && arp && spaces && for_it && host) (Some told) None ≡ None
by_other long for_it false arp spaces host told w₁ w₂ other datagram is = refl
by_other long for_it true false spaces host told w₁ w₂ other datagram is = refl
by_other long for_it true true false host told w₁ w₂ other datagram is = refl
by_other long false true true true host told w₁ w₂ other datagram is = refl
by_other false true true true true host told w₁ w₂ other datagram is = (let clash = is in cc)
by_other true true true true true true told w₁ w₂ other datagram is = (let clash = is in cc)
by_other true true true true true false told w₁ w₂ other datagram is = refl

pub carries_no_arp : (hardware : EthernetAddress) (frame : List ℕ) (datagram : Datagram)
    → brought_by hardware frame ≡ Ok datagram → arriving_arp hardware frame ≡ None
carries_no_arp hardware frame datagram is =
    by_other (nat_le 14 (length frame)) (is_for hardware frame) (nat_le 42 (length frame))
    (be16_at frame 12 == 0x0806) _ (is_from_host (arp_at frame)) (arp_at frame) reason.Short reason.Station _ datagram is

-- what a frame brings, by the datagram that it carries
pub ok_is : (brought : Brought) (datagram : Datagram) → result_ok brought ≡ Some datagram → Ok datagram ≡ brought
ok_is (Ok found) datagram is = (let same = is in cc)
ok_is (Err verdict) datagram is = (let clash = is in cc)

pub err_is : (brought : Brought) (verdict : Verdict) → result_ok brought ≡ None → verdict ≡ otherwise brought
    → Err verdict ≡ brought
err_is (Ok found) verdict none is = (let clash = none in cc)
err_is (Err other) verdict none is = ap Err is

-- a frame of the ether type of IPv4 brings what its packet brings
pub behind_type : (hardware : EthernetAddress) (frame : List ℕ) → 14 ≤ length frame → is_for hardware frame ≡ true
    → be16_at frame 12 ≡ 0x0800 → brought_by hardware frame ≡ brought_by_packet (drop 14 frame)
behind_type hardware frame long for_it ip =
    let whole : nat_le 14 (length frame) ≡ true = grind arith in
    rw (whole, for_it, ip) refl
