-- What two packets hold, of which one is that of the first bytes of the other's frame.
use Rattle.std.proofs.Common.{◌≡◌, ℕ, ◌-◌, ◌<◌, ◌≤◌, min, Bool, true, false, List, length, take, drop, Option, Some, None, refl, sym, ap, ◌∙◌, arith}
use Rattle.std.specs.Prelude.{nat_lt, slice_range}
use Rattle.std.proofs.lemmas.Bool.Decides.{nat_tests}
use Rattle.std.proofs.lemmas.List.{length-take, take-take}
use Rattle.ether_link.specs.Layout.{IsLayoutFrom}
use Rattle.ether_link.specs.declared.layout.PartKind.TheVariants as kind
use Rattle.ether_link.specs.declared.layout.Place.{Place}
use Rattle.ether_link.specs.declared.layout.Stop.{Stop}
use Rattle.ether_link.proofs.LayoutLemmas.{nested}
use Rattle.ether_link.proofs.RangeLemmas.{range_cut}
use Rattle.ether_ip.specs.PacketGrammar.{packet_grammar}
use Rattle.ether_ip.specs.declared.err.packet.SliceError.{SliceError}
use Rattle.ether_ip.proofs.CutPacketLemmas as ip
use Rattle.ether_ip.proofs.PacketLemmas.{packets_orderly}
use Rattle.ether_lax.specs.CutPackets.{IsFront, IsCutPayload, IsCutNet, IsCutPacket, last_header}
use Rattle.ether_lax.specs.Found.{no_parts, parts_of}
use Rattle.ether_lax.specs.Parts.{window_at}
use Rattle.ether_lax.specs.Sliced.{SlicedParts, HoldsLayout, sliced_in, sliced_of, net_by, ip_by}
use Rattle.ether_lax.specs.Steps.{begins_with}
use Rattle.ether_lax.specs.declared.found.FoundIp.{FoundIp}
use Rattle.ether_lax.specs.declared.found.IpHeader.{IpHeader}
use Rattle.ether_lax.specs.declared.found.IpHeader.TheVariants.{V4, V6}
use Rattle.ether_lax.specs.declared.sliced_packet.LaxSlicedPacket.{LaxSlicedPacket}
use Rattle.ether_lax.proofs.CutLemmas.{front, Fits, IsCut, IsCutIp, IsCutFound, IsCutArp, IsKeptBy, IsSame}
use Rattle.ether_lax.proofs.CutPacketLemmas.{header_kept, run, kept_all}
use Rattle.ether_lax.proofs.RankLemmas.{are_parts}

earlier_by : (a b n : ℕ) → (b ≤ n → a ≡ b) → a < b → (t : Bool) → nat_lt n b ≡ t → n < b
earlier_by a b n same less true is = grind (arith, nat_tests)
earlier_by a b n same less false is = let eq = same (grind (arith, nat_tests)) in absurd (omega arith)

module _ (frame : List ℕ) (n : ℕ) (kept auth : Option (List ℕ)) (i j : FoundIp) (found : IsCutFound n kept auth i j) where
  window_kept : window_at (take n frame) i.last ≡ take (n - i.last.body) (slice_range frame i.last.body j.last.end)
  window_kept = rw found.ends (range_cut frame n i.last.body j.last.end found.inside)

  payload_cut : IsCutPayload frame n (Some i.last) (Some j.last) (window_at (take n frame) i.last) (window_at frame j.last)
  payload_cut =
      let inside = found.inside in
      record {
        kept_place = i.last;
        place = j.last;
        at_is = refl;
        last_is = refl;
        payload_is = refl;
        kept_is = window_kept;
        no_later = found.no_later;
        earlier = (λ less. earlier_by i.last.body j.last.body n found.together less (nat_lt n j.last.body) refl, λ less. omega arith);
        together = λ fits. window_kept ∙ ap (λ at. take (n - at) (slice_range frame at j.last.end)) (found.together fits);
      }

  chain_cut : IsFront (slice_range (take n frame) i.first.body i.last.body) (slice_range frame j.first.body j.last.body)
  chain_cut =
      let order = found.order in
      let no_later = found.no_later in
      let begins = found.first in
      let short = take-take (i.last.body - j.first.body) (j.last.body - j.first.body) (drop j.first.body frame) (omega arith) in
      let whole : slice_range (take n frame) i.first.body i.last.body ≡ take (i.last.body - j.first.body) (slice_range frame j.first.body j.last.body)
      = header_kept frame n i.first.body i.last.body order found.inside ∙ ap (λ at. slice_range frame at i.last.body) begins ∙ sym short in
      rw whole (front (i.last.body - j.first.body) (slice_range frame j.first.body j.last.body))

  version_cut : (header : IpHeader) → IsKeptBy header kept auth
      → IsCutNet frame n (Some i.last) (Some j.last) (Some (ip_by (take n frame) kept i header)) (Some (ip_by frame auth j header))
  version_cut (V4 header) is = (refl, is, payload_cut)
  version_cut (V6 header) is = (refl, chain_cut, payload_cut)

  ip_cut : IsCutNet frame n (Some i.last) (Some j.last) (Some (ip_by (take n frame) kept i i.header)) (Some (ip_by frame auth j j.header))
  ip_cut = rw found.header (version_cut j.header found.auth)

net_cut : (frame : List ℕ) (n : ℕ) (kept auth : Option (List ℕ)) (ci wi : Option FoundIp) (c_arp w_arp : Option (List ℕ))
    → IsCutIp n kept auth ci wi → IsCutArp c_arp w_arp wi
    → IsCutNet frame n (last_header ci) (last_header wi) (net_by (take n frame) kept ci c_arp) (net_by frame auth wi w_arp)
net_cut frame n kept auth None wi None w_arp found arp = tt
net_cut frame n kept auth None wi (Some packet) w_arp found arp = rw (arp.0, arp.1) refl
net_cut frame n kept auth (Some i) None c_arp w_arp found arp = absurd found
net_cut frame n kept auth (Some i) (Some j) c_arp w_arp found arp = ip_cut frame n kept auth i j found

module _ (frame : List ℕ) (n : ℕ) (kept_places places : List Place) (kept_stop stop : Option (Stop SliceError))
    (cut : IsLayoutFrom packet_grammar (take n frame) (begins_with kind.Ethernet2) 0 (length (take n frame)) kept_places kept_stop)
    (right : IsLayoutFrom packet_grammar frame (begins_with kind.Ethernet2) 0 (length frame) places stop) where
  none_fit : Fits 0 0 (length frame) no_parts
  none_fit = record { ip = λ low. refl; lies = tt; arp = λ low. refl; transport = λ low. refl }

  none_same : IsSame n no_parts no_parts
  none_same = record { cut = record { exts = tt; ip = tt; arp = tt; transport = tt }; count = refl; auth = refl; ip = tt }

  parts_cut : IsCut n (parts_of (take n frame) kept_places) (parts_of frame places)
  parts_cut =
      let there : length (take n frame) ≡ min (length frame) n = omega (arith, length-take n frame) in
      let moved = rw there at cut in
      let same = (ip.cut_packet frame n (begins_with kind.Ethernet2) 0 (length frame) places kept_places stop kept_stop (omega arith) right moved).0 in
      let inside = nested packet_grammar frame packets_orderly places (begins_with kind.Ethernet2) 0 (length frame) stop right in
      let parts = are_parts frame places (begins_with kind.Ethernet2) 0 0 (length frame) stop (omega arith) right inside in
      let kept_inside = nested packet_grammar (take n frame) packets_orderly kept_places (begins_with kind.Ethernet2) 0 (length (take n frame)) kept_stop cut in
      let kept_parts = are_parts (take n frame) kept_places (begins_with kind.Ethernet2) 0 0 (length (take n frame)) kept_stop (omega arith) cut kept_inside in
      let whole = run frame n places 0 0 (length frame) no_parts no_parts (omega arith) parts none_fit none_same in
      kept_all frame n kept_places 0 0 (length (take n frame)) no_parts (parts_of frame places) kept_parts (rw same whole)

  pub places_cut : (kept packet : SlicedParts) → kept ≡ sliced_of (take n frame) (parts_of (take n frame) kept_places) kept_stop
      → packet ≡ sliced_of frame (parts_of frame places) stop → IsCutPacket frame n kept packet
  places_cut kept packet kept_is is =
      let c = parts_of (take n frame) kept_places in
      let w = parts_of frame places in
      let both = parts_cut in
      record {
        kept_places = kept_places;
        kept_stop = kept_stop;
        kept_layout = cut;
        places = places;
        stop = stop;
        layout = right;
        exts = rw (kept_is, is) both.exts;
        net = rw (kept_is, is) (net_cut frame n c.held.auth w.held.auth c.ip w.ip c.arp w.arp both.ip both.arp);
        transport = rw (kept_is, is) both.transport;
      }

-- the packet of the first n bytes, and that of all
pub packet_cut : (frame : List ℕ) (n : ℕ) (kept packet : LaxSlicedPacket) → HoldsLayout (take n frame) (begins_with kind.Ethernet2) kept
    → HoldsLayout frame (begins_with kind.Ethernet2) packet → IsCutPacket frame n (sliced_in kept) (sliced_in packet)
packet_cut frame n kept packet holds_kept holds =
    places_cut frame n holds_kept.places holds.places holds_kept.stop holds.stop holds_kept.layout holds.layout (sliced_in kept) (sliced_in packet)
    holds_kept.holds holds.holds
