-- The first bytes of a frame leave a front of its packet.
use Rattle.std.proofs.Common.{◌≡◌, ℕ, ◌+◌, ◌-◌, ◌<◌, ◌≤◌, min, Bool, true, false, List, [], ◌∷◌, ◌++◌, length, take, drop, Option, Some, None, refl, sym, ap, ◌∙◌, length-append, arith}
use Rattle.std.specs.Prelude.{nat_lt, is_some, if◌then◌else◌, slice_range}
use Rattle.std.proofs.lemmas.Bool.Decides.{nat_tests}
use Rattle.std.proofs.lemmas.List.{length-take-le, take-take, take_all}
use Rattle.ether_link.specs.Form.{Form, header_len}
use Rattle.ether_link.specs.Macsec.{macsec_next_ether_type}
use Rattle.ether_link.specs.Places.{header_at}
use Rattle.ether_link.specs.declared.layout.PartKind.{PartKind}
use Rattle.ether_link.specs.declared.layout.PartKind.TheVariants as kind
use Rattle.ether_link.specs.declared.layout.Place.{Place}
use Rattle.ether_link.specs.declared.len_source.LenSource.{LenSource}
use Rattle.ether_link.specs.declared.numbers.EtherType.{EtherType}
use Rattle.ether_link.proofs.RangeLemmas.{range_cut}
use Rattle.ether_ip.specs.Extensions.{extension_slice}
use Rattle.ether_ip.specs.Held.{with_extension}
use Rattle.ether_ip.specs.IpHeaders.{is_ipv4}
use Rattle.ether_ip.specs.PacketGrammar.{packet_grammar}
use Rattle.ether_ip.specs.Tcp.{tcp_slice_form}
use Rattle.ether_ip.specs.declared.ip.ext_places.ExtensionPlaces.{ExtensionPlaces}
use Rattle.ether_ip.specs.declared.ip.exts.Ipv6ExtensionSlice.{Ipv6ExtensionSlice}
use Rattle.ether_ip.specs.declared.ip.exts.Ipv6ExtensionSlice.TheVariants as extension
use Rattle.ether_ip.specs.declared.transport.TransportSlice.{TransportSlice}
use Rattle.ether_ip.specs.declared.transport.TransportSlice.TheVariants.{Udp, Tcp, Icmpv4, Icmpv6}
use Rattle.ether_lax.specs.CutPackets.{IsFront, IsKept, IsCutExt, AreCutExts, IsCutTransport}
use Rattle.ether_lax.specs.Found.{Parts, with_part, with_ext, extended}
use Rattle.ether_lax.specs.LinkExts.{LinkExtPart, TagPart, macsec_part, secured}
use Rattle.ether_lax.specs.Parts.{part_at, part_in, whole_at, window_at, source_at, is_incomplete}
use Rattle.ether_lax.specs.declared.found.FoundIp.{FoundIp}
use Rattle.ether_lax.specs.declared.found.IpHeader.{IpHeader}
use Rattle.ether_lax.specs.declared.found.IpHeader.TheVariants.{V4, V6}
use Rattle.ether_lax.specs.declared.step.Part.TheVariants as part
use Rattle.ether_lax.proofs.RankLemmas.{rank, behind}

-- fronts of bytes
front_by : (k : ℕ) (bytes : List ℕ) (b : Bool) → nat_lt (length bytes) k ≡ b → IsFront (take k bytes) bytes
front_by k bytes true is =
    let whole : take k bytes ≡ bytes = take_all k bytes (grind (arith, nat_tests)) in
    rw whole (sym (take_all (length bytes) bytes (omega arith)))
front_by k bytes false is =
    let len : length (take k bytes) ≡ k = length-take-le k bytes (grind (arith, nat_tests)) in
    ap (λ n. take n bytes) (sym len)

pub front : (k : ℕ) (bytes : List ℕ) → IsFront (take k bytes) bytes
front k bytes = front_by k bytes (nat_lt (length bytes) k) refl

-- the length of a header in the first bytes
same_len : {E : Type 0} (form : Form E) (k : ℕ) (bytes : List ℕ) → form.least ≤ k → header_len form (take k bytes) ≡ header_len form bytes
same_len form k bytes room = ap (λ head. form.least + form.more head) (take-take form.least k bytes room)

-- what was gathered fits the rank of what follows, and where that begins and ends
abbrev pub FitsVersion : ℕ → IpHeader → Option (List ℕ) → Type 0
FitsVersion r (V4 header) auth = (4 ≤ r) × (r ≤ 4 → auth ≡ None)
FitsVersion r (V6 header) auth = 3 ≤ r

abbrev pub FitsIp : ℕ → Option FoundIp → Option (List ℕ) → Type 0
FitsIp r None auth = r ≤ 2 → auth ≡ None
FitsIp r (Some ip) auth = FitsVersion r ip.header auth

abbrev pub LiesBy : ℕ → ℕ → Option FoundIp → Type 0
LiesBy start end None = Unit {0}
LiesBy start end (Some ip) = (ip.last.body ≤ start) × (end ≤ ip.last.end)

pub record Fits (r start end : ℕ) (w : Parts) : Type 0 where
  pub ip : FitsIp r w.ip w.held.auth
  pub lies : LiesBy start end w.ip
  pub arp : r ≤ 5 → w.arp ≡ None
  pub transport : r ≤ 5 → w.transport ≡ None

no_version : (r : ℕ) (header : IpHeader) (auth : Option (List ℕ)) → r ≤ 2 → FitsVersion r header auth → ⊥
no_version r (V4 header) auth low fits = let high = fits.0 in omega arith
no_version r (V6 header) auth low fits = omega arith

pub none_yet : (r : ℕ) (ip : Option FoundIp) (auth : Option (List ℕ)) → r ≤ 2 → FitsIp r ip auth → (ip ≡ None) × (auth ≡ None)
none_yet r None auth low fits = (refl, fits low)
none_yet r (Some ip) auth low fits = absurd (no_version r ip.header auth low fits)

fits_none : (r : ℕ) (ip : Option FoundIp) (auth : Option (List ℕ)) → ip ≡ None → auth ≡ None → FitsIp r ip auth
fits_none r ip auth no_ip no_auth = rw (no_ip, no_auth) (λ low. refl)

early : (r s : ℕ) (ip : Option FoundIp) (auth : Option (List ℕ)) → r ≤ 2 → FitsIp r ip auth → FitsIp s ip auth
early r s ip auth low fits = let none = none_yet r ip auth low fits in fits_none s ip auth none.0 none.1

late_version : (r : ℕ) (header : IpHeader) (auth : Option (List ℕ)) → FitsVersion r header auth → FitsVersion 6 header auth
late_version r (V4 header) auth fits = (omega arith, λ low. absurd (omega arith))
late_version r (V6 header) auth fits = omega arith

late : (r : ℕ) (ip : Option FoundIp) (auth : Option (List ℕ)) → FitsIp r ip auth → FitsIp 6 ip auth
late r None auth fits = λ low. absurd (omega arith)
late r (Some ip) auth fits = late_version r ip.header auth fits

chain_version : (r : ℕ) (header : IpHeader) (auth new : Option (List ℕ)) → r ≤ 3 → FitsVersion r header auth → FitsVersion 3 header new
chain_version r (V4 header) auth new low fits = let high = fits.0 in absurd (omega arith)
chain_version r (V6 header) auth new low fits = omega arith

fits_chain : (r : ℕ) (p : Place) (ext : Ipv6ExtensionSlice) (ip : Option FoundIp) (auth new : Option (List ℕ)) → r ≤ 3 → FitsIp r ip auth
    → FitsIp 3 (extended p ext ip) new
fits_chain r p ext None auth new low fits = λ less. absurd (omega arith)
fits_chain r p ext (Some ip) auth new low fits = chain_version r ip.header auth new low fits

auth_version : (r : ℕ) (header : IpHeader) (auth new : Option (List ℕ)) → FitsVersion r header auth → FitsVersion 5 header new
auth_version r (V4 header) auth new fits = (omega arith, λ low. absurd (omega arith))
auth_version r (V6 header) auth new fits = omega arith

fits_auth : (r : ℕ) (p : Place) (ext : Ipv6ExtensionSlice) (ip : Option FoundIp) (auth new : Option (List ℕ)) → FitsIp r ip auth
    → FitsIp 5 (extended p ext ip) new
fits_auth r p ext None auth new fits = λ less. absurd (omega arith)
fits_auth r p ext (Some ip) auth new fits = auth_version r ip.header auth new fits

lies_later : (start end body last : ℕ) (ip : Option FoundIp) → start ≤ body → last ≤ end → LiesBy start end ip → LiesBy body last ip
lies_later start end body last None order within lies = tt
lies_later start end body last (Some ip) order within lies = let a = lies.0 in let b = lies.1 in (omega arith, omega arith)

lies_ext : (p : Place) (ext : Ipv6ExtensionSlice) (ip : Option FoundIp) → LiesBy p.body p.end (extended p ext ip)
lies_ext p ext None = tt
lies_ext p ext (Some ip) = (omega arith, omega arith)

module _ (frame : List ℕ) (p : Place) (w : Parts) (r start end : ℕ) (fits : Fits r start end w) (order : start ≤ p.body) (within : p.end ≤ end) where
  moved : LiesBy p.body p.end w.ip
  moved = lies_later start end p.body p.end w.ip order within fits.lies

  fits_version : (header : List ℕ) (b : Bool) → r ≤ 2
      → Fits (if b then 4 else 3) p.body p.end (with_part frame p (if b then part.Ipv4 header else part.Ipv6 header) w)
  fits_version header true low = record {
    ip = (omega arith, λ less. (none_yet r w.ip w.held.auth low fits.ip).1);
    lies = (omega arith, omega arith);
    arp = λ less. fits.arp (omega arith);
    transport = λ less. fits.transport (omega arith);
  }
  fits_version header false low = record {
    ip = omega arith;
    lies = (omega arith, omega arith);
    arp = λ less. fits.arp (omega arith);
    transport = λ less. fits.transport (omega arith);
  }

  fits_in : (kind_of : PartKind) (header whole : List ℕ) → r ≤ rank kind_of
      → Fits (behind kind_of header) p.body p.end (with_part frame p (part_in kind_of header whole) w)
  fits_in kind.Ethernet2 header whole ranked = record {
    ip = early r 1 w.ip w.held.auth (omega arith) fits.ip;
    lies = moved;
    arp = λ less. fits.arp (omega arith);
    transport = λ less. fits.transport (omega arith);
  }
  fits_in kind.LinuxSll header whole ranked = record {
    ip = early r 1 w.ip w.held.auth (omega arith) fits.ip;
    lies = moved;
    arp = λ less. fits.arp (omega arith);
    transport = λ less. fits.transport (omega arith);
  }
  fits_in kind.Vlan header whole ranked = record {
    ip = early r 1 w.ip w.held.auth (omega arith) fits.ip;
    lies = moved;
    arp = λ less. fits.arp (omega arith);
    transport = λ less. fits.transport (omega arith);
  }
  fits_in kind.Macsec header whole ranked = record {
    ip = early r 1 w.ip w.held.auth (omega arith) fits.ip;
    lies = moved;
    arp = λ less. fits.arp (omega arith);
    transport = λ less. fits.transport (omega arith);
  }
  fits_in kind.Arp header whole ranked = record {
    ip = early r 6 w.ip w.held.auth (omega arith) fits.ip;
    lies = moved;
    arp = λ less. absurd (omega arith);
    transport = λ less. absurd (omega arith);
  }
  fits_in kind.Ip header whole ranked = fits_version header (is_ipv4 header) (omega arith)
  fits_in kind.Ipv4Auth header whole ranked = record {
    ip = fits_auth r p (extension.Authentication header) w.ip w.held.auth (Some header) fits.ip;
    lies = lies_ext p (extension.Authentication header) w.ip;
    arp = λ less. fits.arp (omega arith);
    transport = λ less. fits.transport (omega arith);
  }
  fits_in kind.Udp header whole ranked = record {
    ip = late r w.ip w.held.auth fits.ip;
    lies = moved;
    arp = λ less. absurd (omega arith);
    transport = λ less. absurd (omega arith);
  }
  fits_in kind.Tcp header whole ranked = record {
    ip = late r w.ip w.held.auth fits.ip;
    lies = moved;
    arp = λ less. absurd (omega arith);
    transport = λ less. absurd (omega arith);
  }
  fits_in kind.Icmpv4 header whole ranked = record {
    ip = late r w.ip w.held.auth fits.ip;
    lies = moved;
    arp = λ less. absurd (omega arith);
    transport = λ less. absurd (omega arith);
  }
  fits_in kind.Icmpv6 header whole ranked = record {
    ip = late r w.ip w.held.auth fits.ip;
    lies = moved;
    arp = λ less. absurd (omega arith);
    transport = λ less. absurd (omega arith);
  }
  fits_in other header whole ranked = record {
    ip = fits_chain r p (extension_slice other header) w.ip w.held.auth (with_extension (extension_slice other header) w.held).auth (omega arith) fits.ip;
    lies = lies_ext p (extension_slice other header) w.ip;
    arp = λ less. fits.arp (omega arith);
    transport = λ less. fits.transport (omega arith);
  }

  pub fits_step : r ≤ rank p.kind → Fits (behind p.kind (header_at frame p)) p.body p.end (with_part frame p (part_at frame p) w)
  fits_step ranked = fits_in p.kind (header_at frame p) (whole_at frame p) ranked

-- an IP packet that was found in the first n bytes and in all
abbrev pub IsKeptBy : IpHeader → Option (List ℕ) → Option (List ℕ) → Type 0
IsKeptBy (V4 header) kept auth = IsKept kept auth
IsKeptBy (V6 header) kept auth = Unit {0}

pub record IsCutFound (n : ℕ) (kept own : Option (List ℕ)) (i j : FoundIp) : Type 0 where
  pub header : i.header ≡ j.header
  pub first : i.first.body ≡ j.first.body
  pub order : i.first.body ≤ i.last.body
  pub no_later : i.last.body ≤ j.last.body
  pub inside : i.last.body ≤ n
  pub together : j.last.body ≤ n → i.last.body ≡ j.last.body
  pub ends : i.last.end ≡ min j.last.end n
  pub window : j.last.body ≤ j.last.end
  pub auth : IsKeptBy j.header kept own

abbrev pub IsCutIp : ℕ → Option (List ℕ) → Option (List ℕ) → Option FoundIp → Option FoundIp → Type 0
IsCutIp n kept auth None ip = Unit {0}
IsCutIp n kept auth (Some i) None = ⊥
IsCutIp n kept auth (Some i) (Some j) = IsCutFound n kept auth i j

abbrev pub IsCutArp : Option (List ℕ) → Option (List ℕ) → Option FoundIp → Type 0
IsCutArp None arp ip = Unit {0}
IsCutArp (Some kept) arp ip = (arp ≡ Some kept) × (ip ≡ None)

pub record IsCut (n : ℕ) (c w : Parts) : Type 0 where
  pub exts : AreCutExts c.exts w.exts
  pub ip : IsCutIp n c.held.auth w.held.auth c.ip w.ip
  pub arp : IsCutArp c.arp w.arp w.ip
  pub transport : IsCutTransport c.transport w.transport

-- so far both have the same parts
abbrev pub IsSameIp : Option FoundIp → Option FoundIp → Type 0
IsSameIp None None = Unit {0}
IsSameIp (Some i) (Some j) = i.last.body ≡ j.last.body
IsSameIp ip other = ⊥

pub record IsSame (n : ℕ) (c w : Parts) : Type 0 where
  pub cut : IsCut n c w
  pub count : length c.exts ≡ length w.exts
  pub auth : c.held.auth ≡ w.held.auth
  pub ip : IsSameIp c.ip w.ip

exts_both : (xs ys : List LinkExtPart) (x y : LinkExtPart) → length xs ≡ length ys → AreCutExts xs ys → IsCutExt x y
    → AreCutExts (xs ++ x ∷ []) (ys ++ y ∷ [])
exts_both [] [] x y count cut one = (one, tt)
exts_both [] (b ∷ ys) x y count cut one = absurd (omega arith)
exts_both (a ∷ xs) [] x y count cut one = absurd (omega arith)
exts_both (a ∷ xs) (b ∷ ys) x y count cut one = (cut.0, exts_both xs ys x y (omega arith) cut.1 one)

pub exts_more : (xs ys : List LinkExtPart) (y : LinkExtPart) → AreCutExts xs ys → AreCutExts xs (ys ++ y ∷ [])
exts_more [] ys y cut = tt
exts_more (a ∷ xs) [] y cut = absurd cut
exts_more (a ∷ xs) (b ∷ ys) y cut = (cut.0, exts_more xs ys y cut.1)

count_both : (xs ys : List LinkExtPart) (x y : LinkExtPart) → length xs ≡ length ys → length (xs ++ x ∷ []) ≡ length (ys ++ y ∷ [])
count_both xs ys x y count = omega (arith, length-append xs (x ∷ []), length-append ys (y ∷ []))

macsec_cut : (header kept bytes : List ℕ) (lacks incomplete : Bool) (kept_source source : LenSource) (number : Option EtherType) → IsFront kept bytes
    → IsCutExt (secured header lacks kept_source kept number) (secured header incomplete source bytes number)
macsec_cut header kept bytes lacks incomplete kept_source source (Some number) is = (refl, refl, is)
macsec_cut header kept bytes lacks incomplete kept_source source None is = (refl, is)

-- there is no ARP packet, or no transport part, yet
pub no_arp : (kept arp other : Option (List ℕ)) (ip another : Option FoundIp) → arp ≡ None → IsCutArp kept arp ip → IsCutArp kept other another
no_arp None arp other ip another none cut = tt
no_arp (Some bytes) arp other ip another none cut = let is = cut.0 in absurd (cc)

pub no_transport : (kept : Option TransportSlice) (t other : Option TransportSlice) → t ≡ None → IsCutTransport kept t → IsCutTransport kept other
no_transport None t other none cut = tt
no_transport (Some (Icmpv4 bytes)) t other none cut = tt
no_transport (Some (Icmpv6 bytes)) t other none cut = tt
no_transport (Some (Udp bytes)) t other none cut = absurd (rw none at cut)
no_transport (Some (Tcp bytes)) t other none cut = absurd (rw none at cut)

pub no_ip : (n : ℕ) (kept auth kept_other other : Option (List ℕ)) (i j : Option FoundIp) (new : FoundIp) → j ≡ None → IsCutIp n kept auth i j
    → IsCutIp n kept_other other i (Some new)
no_ip n kept auth kept_other other None j new none cut = tt
no_ip n kept auth kept_other other (Some i) j new none cut = absurd (rw none at cut)

kept_same : (header : IpHeader) (auth : Option (List ℕ)) → IsKeptBy header auth auth
kept_same (V4 header) None = tt
kept_same (V4 header) (Some bytes) = refl
kept_same (V6 header) auth = tt

kept_none : (kept auth new : Option (List ℕ)) → auth ≡ None → IsKept kept auth → IsKept kept new
kept_none None auth new none is = tt
kept_none (Some bytes) auth new none is = absurd (cc)

pub kept_version : (r : ℕ) (header : IpHeader) (kept auth new : Option (List ℕ)) → r ≤ 4 → FitsVersion r header auth → IsKeptBy header kept auth
    → IsKeptBy header kept new
kept_version r (V4 header) kept auth new low fits is = kept_none kept auth new (fits.1 low) is
kept_version r (V6 header) kept auth new low fits is = tt

either_auth : (held : ExtensionPlaces) (header : List ℕ) (b : Bool)
    → (if b then record held { final_destination_options = Some header } else record held { destination_options = Some header }).auth ≡ held.auth
either_auth held header true = refl
either_auth held header false = refl

same_auth : (ext : Ipv6ExtensionSlice) (a b : ExtensionPlaces) → a.auth ≡ b.auth → (with_extension ext a).auth ≡ (with_extension ext b).auth
same_auth (extension.HopByHop header) a b is = is
same_auth (extension.Routing header) a b is = is
same_auth (extension.DestinationOptions header) a b is =
    either_auth a header (is_some a.routing) ∙ is ∙ sym (either_auth b header (is_some b.routing))
same_auth (extension.Fragment header) a b is = is
same_auth (extension.Authentication header) a b is = refl

-- one part more in both
same_last : (n : ℕ) (c w : Parts) (x y : Option Place) → IsSame n c w → IsSame n (record c { last = x }) (record w { last = y })
same_last n c w x y same = record {
  cut = record { exts = same.cut.exts; ip = same.cut.ip; arp = same.cut.arp; transport = same.cut.transport };
  count = same.count;
  auth = same.auth;
  ip = same.ip;
}

same_ext : (n : ℕ) (c w : Parts) (x y : LinkExtPart) → IsSame n c w → IsCutExt x y → IsSame n (with_ext x c) (with_ext y w)
same_ext n c w x y same one = record {
  cut = record { exts = exts_both c.exts w.exts x y same.count same.cut.exts one; ip = same.cut.ip; arp = same.cut.arp; transport = same.cut.transport };
  count = count_both c.exts w.exts x y same.count;
  auth = same.auth;
  ip = same.ip;
}

same_transport : (n : ℕ) (c w : Parts) (x y : TransportSlice) (a b : Option Place) → IsSame n c w → IsCutTransport (Some x) (Some y)
    → IsSame n (record c { transport = Some x; last = a }) (record w { transport = Some y; last = b })
same_transport n c w x y a b same one = record {
  cut = record { exts = same.cut.exts; ip = same.cut.ip; arp = same.cut.arp; transport = one };
  count = same.count;
  auth = same.auth;
  ip = same.ip;
}

-- the room of a header, as far as it is asked for
abbrev HasRoomFor : PartKind → ℕ → List ℕ → Type 0
HasRoomFor kind.Vlan k whole = 4 ≤ k
HasRoomFor kind.Udp k whole = 8 ≤ k
HasRoomFor kind.Tcp k whole = (20 ≤ k) × (header_len tcp_slice_form whole ≤ k)
HasRoomFor other k whole = Unit {0}

tcp_room : (frame : List ℕ) (start end body stop n : ℕ) → body ≡ start + header_len tcp_slice_form (slice_range frame start end)
    → body ≤ stop → stop ≤ end → body ≤ n → (20 ≤ n - start) × (header_len tcp_slice_form (slice_range frame start stop) ≤ n - start)
tcp_room frame start end body stop n is window within room =
    let least : 20 ≤ header_len tcp_slice_form (slice_range frame start end) = omega arith in
    let short = same_len tcp_slice_form (stop - start) (drop start frame) (omega arith) in
    let long = same_len tcp_slice_form (end - start) (drop start frame) (omega arith) in
    (omega arith, omega arith)

pub room_for : (part_kind : PartKind) (frame : List ℕ) (start end body stop n : ℕ)
    → body ≡ start + header_len (packet_grammar.form_of part_kind) (slice_range frame start end)
    → body ≤ stop → stop ≤ end → body ≤ n → HasRoomFor part_kind (n - start) (slice_range frame start stop)
room_for kind.Vlan frame start end body stop n is window within room = let len : body ≡ start + 4 = is in omega arith
room_for kind.Udp frame start end body stop n is window within room = let len : body ≡ start + 8 = is in omega arith
room_for kind.Tcp frame start end body stop n is window within room = tcp_room frame start end body stop n is window within room
room_for other frame start end body stop n is window within room = tt

tag_cut : (k : ℕ) (kept whole : List ℕ) → kept ≡ take k whole → 4 ≤ k → IsCutExt (TagPart kept) (TagPart whole)
tag_cut k kept whole is room = rw is (take-take 4 k whole room, front k whole)

udp_cut : (k : ℕ) (kept whole : List ℕ) → kept ≡ take k whole → 8 ≤ k → IsCutTransport (Some (Udp kept)) (Some (Udp whole))
udp_cut k kept whole is room = rw is (take-take 8 k whole room, front k whole)

tcp_cut : (k : ℕ) (kept whole : List ℕ) → kept ≡ take k whole → 20 ≤ k → header_len tcp_slice_form whole ≤ k
    → IsCutTransport (Some (Tcp kept)) (Some (Tcp whole))
tcp_cut k kept whole is least room =
    let len = same_len tcp_slice_form k whole least in
    rw (is, len) (take-take (header_len tcp_slice_form whole) k whole room, front k whole)

module _ (frame : List ℕ) (n : ℕ) (p : Place) (r start end : ℕ) (c w : Parts) (fits : Fits r start end w)
    (order : start < p.body) (window : p.body ≤ p.end) (within : p.end ≤ end) where
  abbrev q : Place
  q = record p { end = min p.end n }

  module _ (room : p.body ≤ n) (same : IsSame n c w) where
    same_version : (header : List ℕ) (b : Bool) → r ≤ 2
        → IsSame n (with_part (take n frame) q (if b then part.Ipv4 header else part.Ipv6 header) c)
        (with_part frame p (if b then part.Ipv4 header else part.Ipv6 header) w)
    same_version header true low = record {
      cut = record {
        exts = same.cut.exts;
        ip = record {
          header = refl;
          first = refl;
          order = omega arith;
          no_later = omega arith;
          inside = room;
          together = λ fits_in_n. refl;
          ends = refl;
          window = window;
          auth = rw same.auth (kept_same (V4 header) w.held.auth);
        };
        arp = no_arp c.arp w.arp w.arp w.ip _ (fits.arp (omega arith)) same.cut.arp;
        transport = same.cut.transport;
      };
      count = same.count;
      auth = same.auth;
      ip = refl;
    }
    same_version header false low = record {
      cut = record {
        exts = same.cut.exts;
        ip = record {
          header = refl;
          first = refl;
          order = omega arith;
          no_later = omega arith;
          inside = room;
          together = λ fits_in_n. refl;
          ends = refl;
          window = window;
          auth = tt;
        };
        arp = no_arp c.arp w.arp w.arp w.ip _ (fits.arp (omega arith)) same.cut.arp;
        transport = same.cut.transport;
      };
      count = same.count;
      auth = same.auth;
      ip = refl;
    }

    ext_ip : (ext : Ipv6ExtensionSlice) (ci wi : Option FoundIp) (kept auth new other : Option (List ℕ)) → IsSameIp ci wi → IsCutIp n kept auth ci wi
        → LiesBy start end wi → new ≡ other → IsCutIp n new other (extended q ext ci) (extended p ext wi)
    ext_ip ext None None kept auth new other ips cut lies eq = tt
    ext_ip ext None (Some j) kept auth new other ips cut lies eq = absurd ips
    ext_ip ext (Some i) None kept auth new other ips cut lies eq = absurd ips
    ext_ip ext (Some i) (Some j) kept auth new other ips cut lies eq =
        let begins = lies.0 in
        let from_header = cut.order in
        record {
          header = cut.header;
          first = cut.first;
          order = omega arith;
          no_later = omega arith;
          inside = room;
          together = λ fits_in_n. refl;
          ends = refl;
          window = window;
          auth = rw eq (kept_same j.header other);
        }

    ext_same : (ext : Ipv6ExtensionSlice) (ci wi : Option FoundIp) → IsSameIp ci wi → IsSameIp (extended q ext ci) (extended p ext wi)
    ext_same ext None None ips = tt
    ext_same ext None (Some j) ips = absurd ips
    ext_same ext (Some i) None ips = absurd ips
    ext_same ext (Some i) (Some j) ips = refl

    same_extended : (ext : Ipv6ExtensionSlice) → r ≤ 4 → IsSame n (with_part (take n frame) q (part.Extension ext) c) (with_part frame p (part.Extension ext) w)
    same_extended ext low =
        let auths = same_auth ext c.held w.held same.auth in
        record {
          cut = record {
            exts = same.cut.exts;
            ip = ext_ip ext c.ip w.ip c.held.auth w.held.auth _ _ same.ip same.cut.ip fits.lies auths;
            arp = no_arp c.arp w.arp w.arp w.ip (extended p ext w.ip) (fits.arp (omega arith)) same.cut.arp;
            transport = same.cut.transport;
          };
          count = same.count;
          auth = auths;
          ip = ext_same ext c.ip w.ip same.ip;
        }

    same_arp : (packet : List ℕ) → r ≤ 2 → IsSame n (with_part (take n frame) q (part.Arp packet) c) (with_part frame p (part.Arp packet) w)
    same_arp packet low = record {
      cut = record {
        exts = same.cut.exts;
        ip = same.cut.ip;
        arp = (refl, (none_yet r w.ip w.held.auth low fits.ip).0);
        transport = same.cut.transport;
      };
      count = same.count;
      auth = same.auth;
      ip = same.ip;
    }

    pub same_in : (kind_of : PartKind) (header kept whole : List ℕ) → r ≤ rank kind_of → kept ≡ take (n - p.start) whole
        → HasRoomFor kind_of (n - p.start) whole
        → IsSame n (with_part (take n frame) q (part_in kind_of header kept) c) (with_part frame p (part_in kind_of header whole) w)
    same_in kind.Ethernet2 header kept whole ranked is has = same_last n c w _ _ same
    same_in kind.LinuxSll header kept whole ranked is has = same_last n c w _ _ same
    same_in kind.Vlan header kept whole ranked is has =
        same_ext n _ _ (TagPart kept) (TagPart whole) (same_last n c w (Some q) (Some p) same) (tag_cut (n - p.start) kept whole is has)
    same_in kind.Macsec header kept whole ranked is has =
        same_ext n _ _ (macsec_part header (is_incomplete (take n frame) q) (source_at (take n frame) q) (window_at (take n frame) q))
        (macsec_part header (is_incomplete frame p) (source_at frame p) (window_at frame p)) (same_last n c w (Some q) (Some p) same)
        (macsec_cut header (window_at (take n frame) q) (window_at frame p) _ _ _ _ (macsec_next_ether_type header)
        (rw (range_cut frame n p.body p.end room) (front (n - p.body) (window_at frame p))))
    same_in kind.Arp header kept whole ranked is has = same_arp header (omega arith)
    same_in kind.Ip header kept whole ranked is has = same_version header (is_ipv4 header) (omega arith)
    same_in kind.Udp header kept whole ranked is has = same_transport n c w _ _ _ _ same (udp_cut (n - p.start) kept whole is has)
    same_in kind.Tcp header kept whole ranked is has = same_transport n c w _ _ _ _ same (tcp_cut (n - p.start) kept whole is has.0 has.1)
    same_in kind.Icmpv4 header kept whole ranked is has = same_transport n c w _ _ _ _ same tt
    same_in kind.Icmpv6 header kept whole ranked is has = same_transport n c w _ _ _ _ same tt
    same_in other header kept whole ranked is has = same_extended (extension_slice other header) (omega arith)
