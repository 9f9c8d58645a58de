-- The packet of the first bytes of a frame is a front of that of all bytes.
use Rattle.std.proofs.Common.{◌≡◌, ℕ, ◌-◌, ◌<◌, ◌≤◌, min, Bool, true, false, List, [], ◌∷◌, length, take, drop, Option, Some, None, refl, ◌∙◌, arith}
use Rattle.std.specs.Prelude.{nat_lt, if◌then◌else◌, slice_range}
use Rattle.std.proofs.lemmas.Bool.Decides.{nat_tests}
use Rattle.std.proofs.lemmas.List.{length-take, take_all}
use Rattle.ether_link.specs.Cut.{cut_places, proper}
use Rattle.ether_link.specs.Places.{header_at}
use Rattle.ether_link.specs.declared.layout.PartKind.{PartKind}
use Rattle.ether_link.specs.declared.layout.PartKind.TheVariants as kind
use Rattle.ether_link.specs.declared.layout.Place.{Place}
use Rattle.ether_link.proofs.RangeLemmas.{range_cut}
use Rattle.ether_ip.specs.Extensions.{extension_slice}
use Rattle.ether_ip.specs.IpHeaders.{is_ipv4}
use Rattle.ether_ip.specs.PacketGrammar.{is_icmp}
use Rattle.ether_ip.specs.declared.ip.exts.Ipv6ExtensionSlice.{Ipv6ExtensionSlice}
use Rattle.ether_ip.specs.declared.transport.TransportSlice.{TransportSlice}
use Rattle.ether_lax.specs.Found.{Parts, with_part, with_ext, extended, parts_behind}
use Rattle.ether_lax.specs.LinkExts.{LinkExtPart}
use Rattle.ether_lax.specs.Parts.{part_at, part_in, whole_at}
use Rattle.ether_lax.specs.declared.found.FoundIp.{FoundIp}
use Rattle.ether_lax.specs.declared.step.Part.TheVariants as part
use Rattle.ether_lax.proofs.RankLemmas.{rank, behind, AreParts}
use Rattle.ether_lax.proofs.CutLemmas.{Fits, FitsIp, LiesBy, IsCut, IsCutIp, IsSame, fits_step, exts_more, no_arp, no_transport, no_ip, none_yet, kept_version, room_for, same_in}

-- one part more in all bytes alone
more_last : (n : ℕ) (c w : Parts) (y : Option Place) → IsCut n c w → IsCut n c (record w { last = y })
more_last n c w y cut = record { exts = cut.exts; ip = cut.ip; arp = cut.arp; transport = cut.transport }

more_ext : (n : ℕ) (c w : Parts) (y : LinkExtPart) → IsCut n c w → IsCut n c (with_ext y w)
more_ext n c w y cut = record { exts = exts_more c.exts w.exts y cut.exts; ip = cut.ip; arp = cut.arp; transport = cut.transport }

more_transport : (n : ℕ) (c w : Parts) (t : TransportSlice) (y : Option Place) → w.transport ≡ None → IsCut n c w
    → IsCut n c (record w { transport = Some t; last = y })
more_transport n c w t y none cut = record {
  exts = cut.exts;
  ip = cut.ip;
  arp = cut.arp;
  transport = no_transport c.transport w.transport (Some t) none cut.transport;
}

module _ (frame : List ℕ) (n : ℕ) (p : Place) (r start end : ℕ) (c w : Parts) (fits : Fits r start end w)
    (window : p.body ≤ p.end) (within : p.end ≤ end) (cut : IsCut n c w) where
  module _ (past : n < p.body) where
    more_version : (header : List ℕ) (b : Bool) → r ≤ 2 → IsCut n c (with_part frame p (if b then part.Ipv4 header else part.Ipv6 header) w)
    more_version header true low = record {
      exts = cut.exts;
      ip = no_ip n c.held.auth w.held.auth c.held.auth w.held.auth c.ip w.ip _ (none_yet r w.ip w.held.auth low fits.ip).0 cut.ip;
      arp = no_arp c.arp w.arp w.arp w.ip _ (fits.arp (omega arith)) cut.arp;
      transport = cut.transport;
    }
    more_version header false low = record {
      exts = cut.exts;
      ip = no_ip n c.held.auth w.held.auth c.held.auth w.held.auth c.ip w.ip _ (none_yet r w.ip w.held.auth low fits.ip).0 cut.ip;
      arp = no_arp c.arp w.arp w.arp w.ip _ (fits.arp (omega arith)) cut.arp;
      transport = cut.transport;
    }

    more_ip : (ext : Ipv6ExtensionSlice) (ci wi : Option FoundIp) (kept auth new : Option (List ℕ)) → r ≤ 4 → IsCutIp n kept auth ci wi → FitsIp r wi auth
        → LiesBy start end wi → IsCutIp n kept new ci (extended p ext wi)
    more_ip ext None wi kept auth new low found fits_ip lies = tt
    more_ip ext (Some i) None kept auth new low found fits_ip lies = absurd found
    more_ip ext (Some i) (Some j) kept auth new low found fits_ip lies =
        let a = found.inside in
        let b = found.ends in
        let e = lies.1 in
        record {
          header = found.header;
          first = found.first;
          order = found.order;
          no_later = omega arith;
          inside = found.inside;
          together = λ fits_in_n. absurd (omega arith);
          ends = omega arith;
          window = window;
          auth = kept_version r j.header kept auth new low fits_ip found.auth;
        }

    more_extended : (ext : Ipv6ExtensionSlice) → r ≤ 4 → IsCut n c (with_part frame p (part.Extension ext) w)
    more_extended ext low = record {
      exts = cut.exts;
      ip = more_ip ext c.ip w.ip c.held.auth w.held.auth _ low cut.ip fits.ip fits.lies;
      arp = no_arp c.arp w.arp w.arp w.ip (extended p ext w.ip) (fits.arp (omega arith)) cut.arp;
      transport = cut.transport;
    }

    more_arp : (packet : List ℕ) → r ≤ 2 → IsCut n c (with_part frame p (part.Arp packet) w)
    more_arp packet low = record {
      exts = cut.exts;
      ip = cut.ip;
      arp = no_arp c.arp w.arp (Some packet) w.ip w.ip (fits.arp (omega arith)) cut.arp;
      transport = cut.transport;
    }

    more_in : (kind_of : PartKind) (header whole : List ℕ) → r ≤ rank kind_of → IsCut n c (with_part frame p (part_in kind_of header whole) w)
    more_in kind.Ethernet2 header whole ranked = more_last n c w _ cut
    more_in kind.LinuxSll header whole ranked = more_last n c w _ cut
    more_in kind.Vlan header whole ranked = more_ext n c _ _ (more_last n c w (Some p) cut)
    more_in kind.Macsec header whole ranked = more_ext n c _ _ (more_last n c w (Some p) cut)
    more_in kind.Arp header whole ranked = more_arp header (omega arith)
    more_in kind.Ip header whole ranked = more_version header (is_ipv4 header) (omega arith)
    more_in kind.Udp header whole ranked = more_transport n c w _ _ (fits.transport (omega arith)) cut
    more_in kind.Tcp header whole ranked = more_transport n c w _ _ (fits.transport (omega arith)) cut
    more_in kind.Icmpv4 header whole ranked = more_transport n c w _ _ (fits.transport (omega arith)) cut
    more_in kind.Icmpv6 header whole ranked = more_transport n c w _ _ (fits.transport (omega arith)) cut
    more_in other header whole ranked = more_extended (extension_slice other header) (omega arith)

  -- an ICMP message, wherever its header ends
  more_icmp : (kind_of : PartKind) (header whole : List ℕ) → is_icmp kind_of ≡ true → r ≤ 5 → IsCut n c (with_part frame p (part_in kind_of header whole) w)
  more_icmp kind.Icmpv4 header whole icmp low = more_transport n c w _ _ (fits.transport (omega arith)) cut
  more_icmp kind.Icmpv6 header whole icmp low = more_transport n c w _ _ (fits.transport (omega arith)) cut
  more_icmp other header whole icmp low = absurd (cc)

-- the first header of some places ends past the first n bytes
abbrev IsPast : ℕ → List Place → Type 0
IsPast n [] = Unit {0}
IsPast n (p ∷ ps) = n < p.body

past_next : (frame : List ℕ) (n r start end : ℕ) (places : List Place) → n < start → AreParts frame r start end places → IsPast n places
past_next frame n r start end [] past parts = tt
past_next frame n r start end (p ∷ ps) past parts = let order = parts.0.order in omega arith

grown : (frame : List ℕ) (n : ℕ) (c : Parts) (places : List Place) (r start end : ℕ) (w : Parts) → IsPast n places → AreParts frame r start end places
    → Fits r start end w → IsCut n c w → IsCut n c (parts_behind frame w places)
grown frame n c [] r start end w past parts fits cut = cut
grown frame n c (p ∷ ps) r start end w past parts fits cut =
    let one = parts.0 in
    let order = one.order in
    let step = fits_step frame p w r start end fits (omega arith) one.within one.ranked in
    let more = more_in frame n p r start end c w fits one.window one.within cut past p.kind (header_at frame p) (whole_at frame p) one.ranked in
    grown frame n c ps (behind p.kind (header_at frame p)) p.body p.end (with_part frame p (part_at frame p) w)
    (past_next frame n (behind p.kind (header_at frame p)) p.body p.end ps past parts.1) parts.1 step more

-- an ICMP message is the last part
rank_icmp : (part_kind : PartKind) (header : List ℕ) → is_icmp part_kind ≡ true → (rank part_kind ≡ 5) × (behind part_kind header ≡ 6)
rank_icmp kind.Icmpv4 header icmp = (refl, refl)
rank_icmp kind.Icmpv6 header icmp = (refl, refl)
rank_icmp other header icmp = absurd (cc)

rank_most : (part_kind : PartKind) → rank part_kind ≤ 5
rank_most kind.Ethernet2 = omega arith
rank_most kind.LinuxSll = omega arith
rank_most kind.Vlan = omega arith
rank_most kind.Macsec = omega arith
rank_most kind.Arp = omega arith
rank_most kind.Ip = omega arith
rank_most kind.Ipv4Auth = omega arith
rank_most kind.Udp = omega arith
rank_most kind.Tcp = omega arith
rank_most kind.Icmpv4 = omega arith
rank_most kind.Icmpv6 = omega arith
rank_most other = omega arith

pub none_behind : (frame : List ℕ) (start end : ℕ) (places : List Place) → AreParts frame 6 start end places → places ≡ []
none_behind frame start end [] parts = refl
none_behind frame start end (p ∷ ps) parts = let ranked = parts.0.ranked in let most = rank_most p.kind in absurd (omega arith)

pub header_kept : (frame : List ℕ) (n start body : ℕ) → start ≤ body → body ≤ n → slice_range (take n frame) start body ≡ slice_range frame start body
header_kept frame n start body order within =
    let least : min body n ≡ body = omega arith in
    let short : length (slice_range frame start body) ≤ n - start = omega (arith, length-take (body - start) (drop start frame)) in
    (rw least at (range_cut frame n start body (omega arith))) ∙ take_all (n - start) (slice_range frame start body) short

module _ (frame : List ℕ) (n : ℕ) where
  icmp_last : (c : Parts) (p : Place) (ps : List Place) (r start end : ℕ) (w : Parts) → is_icmp p.kind ≡ true → AreParts frame r start end (p ∷ ps)
      → Fits r start end w → IsCut n c w → IsCut n c (parts_behind frame w (p ∷ ps))
  icmp_last c p ps r start end w icmp parts fits cut =
      let one = parts.0 in
      let ranks = rank_icmp p.kind (header_at frame p) icmp in
      let ranked = one.ranked in
      let none = none_behind frame p.body p.end ps (rw (ranks.1) at (parts.1)) in
      let low : r ≤ 5 = omega (arith, ranks.0) in
      rw none (more_icmp frame n p r start end c w fits one.window one.within cut p.kind (header_at frame p) (whole_at frame p) icmp low)

  -- by whether a header lies in the first n bytes
  by_room : (p : Place) (ps : List Place) (r start end : ℕ) (c w : Parts) → start ≤ n → AreParts frame r start end (p ∷ ps) → Fits r start end w → IsSame n c w
      → ((s from to : ℕ) (d v : Parts) → from ≤ n → AreParts frame s from to ps → Fits s from to v → IsSame n d v
      → IsCut n (parts_behind (take n frame) d (cut_places n (proper is_icmp ps))) (parts_behind frame v ps))
      → (b : Bool) → nat_lt n p.body ≡ b
      → IsCut n (parts_behind (take n frame) c (if b then [] else (record p { end = min p.end n } ∷ cut_places n (proper is_icmp ps))))
      (parts_behind frame w (p ∷ ps))
  by_room p ps r start end c w begins parts fits same again true is =
      grown frame n c (p ∷ ps) r start end w (grind (arith, nat_tests)) parts fits same.cut
  by_room p ps r start end c w begins parts fits same again false is =
      let one = parts.0 in
      let order = one.order in
      let at_start = one.begins in
      let inside : p.body ≤ n = grind (arith, nat_tests) in
      let step = fits_step frame p w r start end fits (omega arith) one.within one.ranked in
      let room = room_for p.kind frame start end p.body p.end n one.body one.window one.within inside in
      let header : slice_range (take n frame) p.start p.body ≡ header_at frame p = header_kept frame n p.start p.body (omega arith) inside in
      let whole = range_cut frame n p.start p.end (omega arith) in
      let both = same_in frame n p r start end c w fits one.order one.window one.within inside same p.kind (header_at frame p)
      (slice_range (take n frame) p.start (min p.end n)) (whole_at frame p) one.ranked whole (rw at_start room) in
      again (behind p.kind (header_at frame p)) p.body p.end _ _ inside parts.1 step (rw header both)

  by_kind : (p : Place) (ps : List Place) (r start end : ℕ) (c w : Parts) → start ≤ n → AreParts frame r start end (p ∷ ps) → Fits r start end w → IsSame n c w
      → ((s from to : ℕ) (d v : Parts) → from ≤ n → AreParts frame s from to ps → Fits s from to v → IsSame n d v
      → IsCut n (parts_behind (take n frame) d (cut_places n (proper is_icmp ps))) (parts_behind frame v ps))
      → (b : Bool) → is_icmp p.kind ≡ b
      → IsCut n (parts_behind (take n frame) c (cut_places n (if b then proper is_icmp ps else (p ∷ proper is_icmp ps)))) (parts_behind frame w (p ∷ ps))
  by_kind p ps r start end c w begins parts fits same again true is =
      let ranks = rank_icmp p.kind (header_at frame p) is in
      let none = none_behind frame p.body p.end ps (rw (ranks.1) at (parts.1)) in
      let last = icmp_last c p ps r start end w is parts fits same.cut in
      rw none (rw none at last)
  by_kind p ps r start end c w begins parts fits same again false is =
      by_room p ps r start end c w begins parts fits same again (nat_lt n p.body) refl

  pub run : (places : List Place) (r start end : ℕ) (c w : Parts) → start ≤ n → AreParts frame r start end places → Fits r start end w → IsSame n c w
      → IsCut n (parts_behind (take n frame) c (cut_places n (proper is_icmp places))) (parts_behind frame w places)
  run [] r start end c w begins parts fits same = same.cut
  run (p ∷ ps) r start end c w begins parts fits same = by_kind p ps r start end c w begins parts fits same (run ps) (is_icmp p.kind) refl

  -- an ICMP message in the first bytes
  kept_icmp : (p : Place) (c w : Parts) (kind_of : PartKind) (header whole : List ℕ) → is_icmp kind_of ≡ true → IsCut n c w
      → IsCut n (with_part (take n frame) p (part_in kind_of header whole) c) w
  kept_icmp p c w kind.Icmpv4 header whole icmp cut = record { exts = cut.exts; ip = cut.ip; arp = cut.arp; transport = tt }
  kept_icmp p c w kind.Icmpv6 header whole icmp cut = record { exts = cut.exts; ip = cut.ip; arp = cut.arp; transport = tt }
  kept_icmp p c w other header whole icmp cut = absurd (cc)

  kept_by_kind : (p : Place) (ps : List Place) (r start end : ℕ) (c w : Parts) → AreParts (take n frame) r start end (p ∷ ps)
      → ((s from to : ℕ) (d : Parts) → AreParts (take n frame) s from to ps → IsCut n (parts_behind (take n frame) d (proper is_icmp ps)) w
      → IsCut n (parts_behind (take n frame) d ps) w)
      → (b : Bool) → is_icmp p.kind ≡ b
      → IsCut n (parts_behind (take n frame) c (if b then proper is_icmp ps else (p ∷ proper is_icmp ps))) w
      → IsCut n (parts_behind (take n frame) c (p ∷ ps)) w
  kept_by_kind p ps r start end c w parts again true is cut =
      let ranks = rank_icmp p.kind (header_at (take n frame) p) is in
      let none = none_behind (take n frame) p.body p.end ps (rw (ranks.1) at (parts.1)) in
      let first = rw none at cut in
      rw none (kept_icmp p c w p.kind (header_at (take n frame) p) (whole_at (take n frame) p) is first)
  kept_by_kind p ps r start end c w parts again false is cut =
      again (behind p.kind (header_at (take n frame) p)) p.body p.end _ parts.1 cut

  pub kept_all : (places : List Place) (r start end : ℕ) (c w : Parts) → AreParts (take n frame) r start end places
      → IsCut n (parts_behind (take n frame) c (proper is_icmp places)) w → IsCut n (parts_behind (take n frame) c places) w
  kept_all [] r start end c w parts cut = cut
  kept_all (p ∷ ps) r start end c w parts cut =
      kept_by_kind p ps r start end c w parts (λ s from to d rest more. kept_all ps s from to d w rest more) (is_icmp p.kind) refl cut
