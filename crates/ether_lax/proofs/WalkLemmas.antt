-- What a walk along the parts of a packet knows.
use Rattle.std.proofs.Common.{◌≡◌, ℕ, ◌+◌, Bool, true, false, List, [], ◌∷◌, ◌++◌, length, Option, Some, None, refl, sym, ap, ◌∙◌, arith}
use Rattle.std.specs.Prelude.{◌==◌, ◌&&◌, nat_lt, if◌then◌else◌, slice_range, slice_index, option_and_then}
use Rattle.std.proofs.lemmas.Bool.Decides.{nat_tests}
use Rattle.std.proofs.lemmas.List.{append-nil, append_assoc}
use Rattle.wire_base.specs.Bytes.{be16_at}
use Rattle.ether_link.specs.Form.{or_else, refusal}
use Rattle.ether_link.specs.Layout.{header, place_of, IsLayoutFrom}
use Rattle.ether_link.specs.LinkGrammar.{is_vlan, is_ip, by_ether_type, by_protocol_type, link_turn}
use Rattle.ether_link.specs.LinuxSll.{protocol_type_of}
use Rattle.ether_link.specs.Macsec.{is_unmodified}
use Rattle.ether_link.specs.Places.{header_at}
use Rattle.ether_link.specs.declared.link.linux_sll.LinuxSllProtocolType.{LinuxSllProtocolType}
use Rattle.ether_link.specs.declared.link.linux_sll.LinuxSllProtocolType.TheVariants as protocol
use Rattle.ether_link.specs.declared.layout.PartKind.{PartKind}
use Rattle.ether_link.specs.declared.layout.PartKind.TheVariants as kind
use Rattle.ether_link.specs.declared.layout.Place.{Place}
use Rattle.ether_link.specs.declared.layout.Stop.{Stop}
use Rattle.ether_link.specs.declared.layout.Turn.{Turn}
use Rattle.ether_link.specs.declared.numbers.EtherType.{EtherType}
use Rattle.ether_link.proofs.LayoutLemmas.{some}
use Rattle.ether_link.proofs.WalkLemmas.{IsWalk, begun, one_more, ended, stopped}
use Rattle.ether_ip.specs.ExtensionGrammar.{extension_kind, first_extension_kind, fragmented_behind, turn_to}
use Rattle.ether_ip.specs.Held.{no_extensions, is_taken, with_header, held_by}
use Rattle.ether_ip.specs.IpHeaders.{is_ipv4, number_in, extension_in, is_fragment_in}
use Rattle.ether_ip.specs.PacketGrammar.{packet_grammar, part_turn, transport_kind}
use Rattle.ether_ip.specs.declared.err.packet.SliceError.{SliceError}
use Rattle.ether_ip.specs.declared.ip.ext_places.ExtensionPlaces.{ExtensionPlaces}
use Rattle.ether_ip.proofs.PacketLemmas.{packets_orderly}
use Rattle.ether_lax.specs.Found.{Parts, no_parts, with_part, parts_of}
use Rattle.ether_lax.specs.Parts.{part_at}
use Rattle.ether_lax.specs.Steps.{MayStandBehind, TellsCount, count_behind}
use Rattle.ether_lax.specs.Walks.{kept_from, stop_from, kept_places, kept_stop, IsWalked}
use Rattle.ether_lax.proofs.FoundLemmas.{parts_behind-one_more, held_with, count_with}

-- the turns that headers name tell the number of link extensions
either : (b : Bool) (count : ℕ) (x y : Option Turn) → TellsCount count x → TellsCount count y → TellsCount count (if b then x else y)
either true count x y a b = a
either false count x y a b = b

vlan_turn : (count : ℕ) (b : Bool) → nat_lt count 3 ≡ b → TellsCount count (if b then link_turn kind.Vlan count else None)
vlan_turn count true is = (refl, grind (arith, nat_tests))
vlan_turn count false is = tt

macsec_turn : (count : ℕ) (b : Bool) → nat_lt count 3 ≡ b → TellsCount count (if b then link_turn kind.Macsec count else None)
macsec_turn count true is = (refl, grind (arith, nat_tests))
macsec_turn count false is = tt

pub by_type : (count number : ℕ) → TellsCount count (by_ether_type count number)
by_type count number =
    either (is_vlan number) count _ _ (vlan_turn count (nat_lt count 3) refl)
    (either (number == 0x88e5) count _ _ (macsec_turn count (nat_lt count 3) refl)
    (either (number == 0x0806) count _ _ (refl, tt)
    (either (is_ip number) count _ _ (refl, tt) tt)))

by_protocol : (answer : Option LinuxSllProtocolType) → TellsCount 0 (by_protocol_type answer)
by_protocol (Some (protocol.EtherType number)) = by_type 0 number.0
by_protocol (Some (protocol.NetlinkProtocolType number)) = tt
by_protocol (Some (protocol.GenericRoutingEncapsulationProtocolType number)) = tt
by_protocol (Some (protocol.Ignored number)) = tt
by_protocol None = tt

-- a kind that may stand behind any link extensions
abbrev pub IsAbove : Option PartKind → Type 0
IsAbove None = Unit {0}
IsAbove (Some part) = (count : ℕ) → MayStandBehind part count

above_either : (b : Bool) (x y : Option PartKind) → IsAbove x → IsAbove y → IsAbove (if b then x else y)
above_either true x y a b = a
above_either false x y a b = b

above_extension : (number : ℕ) → IsAbove (extension_kind number)
above_extension number =
    above_either (number == 0) _ _ (λ count. tt)
    (above_either (number == 43) _ _ (λ count. tt)
    (above_either (number == 44) _ _ (λ count. tt)
    (above_either (number == 60) _ _ (λ count. tt)
    (above_either (number == 51) _ _ (λ count. tt) tt))))

pub above_first : (number : ℕ) → IsAbove (first_extension_kind number)
above_first number = above_either (number == 0) _ _ (λ count. tt) (above_extension number)

above_in : (header : List ℕ) → IsAbove (extension_in header)
above_in header = above_either (is_ipv4 header) _ _ (above_either (slice_index header 9 == 51) _ _ (λ count. tt) tt) (above_first (slice_index header 6))

above_transport : (number : ℕ) → IsAbove (transport_kind number)
above_transport number =
    above_either (number == 1) _ _ (λ count. tt)
    (above_either (number == 17) _ _ (λ count. tt)
    (above_either (number == 6) _ _ (λ count. tt)
    (above_either (number == 58) _ _ (λ count. tt) tt)))

turned : (count : ℕ) (fragmented : Bool) (part : Option PartKind) → IsAbove part → TellsCount count (turn_to count fragmented part)
turned count fragmented None above = tt
turned count fragmented (Some part) above = (refl, above count)

first_turn : (count : ℕ) (x y : Option Turn) → TellsCount count x → TellsCount count y → TellsCount count (or_else x y)
first_turn count None y a b = b
first_turn count (Some turn) y a b = a

pub by_number : (count : ℕ) (fragmented : Bool) (extension : Option PartKind) (number : ℕ) → IsAbove extension
    → TellsCount count (part_turn count fragmented extension number)
by_number count fragmented extension number above =
    first_turn count (turn_to count fragmented extension) (if fragmented then None else turn_to count false (transport_kind number))
    (turned count fragmented extension above)
    (either fragmented count None (turn_to count false (transport_kind number)) tt (turned count false (transport_kind number) (above_transport number)))

secured_turn : (count number : ℕ) (b : Bool)
    → TellsCount count (option_and_then (λ (ether_type : EtherType). by_ether_type count ether_type.0)
    (if b then Some (record { 0 = number }) else None))
secured_turn count number true = by_type count number
secured_turn count number false = tt

pub next_counts : (part : PartKind) (count : ℕ) (fragmented : Bool) (bytes : List ℕ) → MayStandBehind part count
    → TellsCount (count_behind part count) (packet_grammar.next (record { kind = part; link_exts = count; fragmented = fragmented }) bytes)
next_counts kind.Ethernet2 count fragmented bytes may = rw may (by_type 0 (be16_at bytes 12))
next_counts kind.LinuxSll count fragmented bytes may = rw may (by_protocol (protocol_type_of (be16_at bytes 2) (be16_at bytes 14)))
next_counts kind.Vlan count fragmented bytes may = by_type (count + 1) (be16_at bytes 2)
next_counts kind.Macsec count fragmented bytes may = secured_turn (count + 1) _ (is_unmodified bytes)
next_counts kind.Arp count fragmented bytes may = tt
next_counts kind.Ip count fragmented bytes may = by_number count (is_fragment_in bytes) (extension_in bytes) (number_in bytes) (above_in bytes)
next_counts kind.Udp count fragmented bytes may = tt
next_counts kind.Tcp count fragmented bytes may = tt
next_counts kind.Icmpv4 count fragmented bytes may = tt
next_counts kind.Icmpv6 count fragmented bytes may = tt
next_counts kind.Fragment count fragmented bytes may =
    by_number count (fragmented_behind kind.Fragment fragmented bytes) (extension_kind (slice_index bytes 0)) (slice_index bytes 0) (above_extension (slice_index bytes 0))
next_counts kind.Ipv4Auth count fragmented bytes may = by_number count fragmented None (slice_index bytes 0) tt
next_counts other count fragmented bytes may =
    by_number count fragmented (extension_kind (slice_index bytes 0)) (slice_index bytes 0) (above_extension (slice_index bytes 0))

-- the headers that are held, and what is kept behind them
pub record AreKept (in_places : Bool) (frame : List ℕ) (held : ExtensionPlaces) (places : List Place) : Type 0 where
  pub held_is : held ≡ held_by frame no_extensions places
  pub kept : (more : List Place) → kept_from in_places frame no_extensions (places ++ more) ≡ places ++ kept_from in_places frame held more
  pub stops : (more : List Place) (stop : Option (Stop SliceError))
      → stop_from in_places frame no_extensions (places ++ more) stop ≡ stop_from in_places frame held more stop

pub none_kept : (in_places : Bool) (frame : List ℕ) → AreKept in_places frame no_extensions []
none_kept in_places frame = record { held_is = refl; kept = λ more. refl; stops = λ more stop. refl }

held_by-one_more : (frame : List ℕ) (held : ExtensionPlaces) (places : List Place) (place : Place)
    → held_by frame held (places ++ place ∷ []) ≡ with_header place.kind (header_at frame place) (held_by frame held places)
held_by-one_more frame held [] place = refl
held_by-one_more frame held (p ∷ ps) place = held_by-one_more frame (with_header p.kind (header_at frame p) held) ps place

module _ (frame : List ℕ) (held : ExtensionPlaces) (place : Place) where
  abbrev now : ExtensionPlaces
  now = with_header place.kind (header_at frame place) held

  kept-open : (in_places : Bool) → (in_places && is_taken place.kind held) ≡ false → (more : List Place)
      → kept_from in_places frame held (place ∷ more) ≡ place ∷ kept_from in_places frame now more
  kept-open true open_place more = rw open_place refl
  kept-open false open_place more = refl

  stop-open : (in_places : Bool) → (in_places && is_taken place.kind held) ≡ false → (more : List Place) (stop : Option (Stop SliceError))
      → stop_from in_places frame held (place ∷ more) stop ≡ stop_from in_places frame now more stop
  stop-open true open_place more stop = rw open_place refl
  stop-open false open_place more stop = refl

  pub one_more_kept : (in_places : Bool) (places : List Place) → AreKept in_places frame held places → (in_places && is_taken place.kind held) ≡ false
      → AreKept in_places frame (with_header place.kind (header_at frame place) held) (places ++ place ∷ [])
  one_more_kept in_places places keeps open_place = record {
    held_is = ap (with_header place.kind (header_at frame place)) keeps.held_is ∙ sym (held_by-one_more frame no_extensions places place);
    kept = λ more. rw (append_assoc places (place ∷ []) more, append_assoc places (place ∷ []) (kept_from in_places frame now more))
        (keeps.kept (place ∷ more) ∙ ap (λ rest. places ++ rest) (kept-open in_places open_place more));
    stops = λ more stop. rw (append_assoc places (place ∷ []) more) (keeps.stops (place ∷ more) stop ∙ stop-open in_places open_place more stop);
  }

all_kept : (in_places : Bool) (frame : List ℕ) (held : ExtensionPlaces) (places : List Place) → AreKept in_places frame held places
    → kept_places in_places frame places ≡ places
all_kept true frame held places keeps = rw append-nil at (keeps.kept [])
all_kept false frame held places keeps = refl

stop_kept : (in_places : Bool) (frame : List ℕ) (held : ExtensionPlaces) (places : List Place) → AreKept in_places frame held places
    → (stop : Stop SliceError) → (in_places && is_taken stop.kind held) ≡ false → kept_stop in_places frame places (Some stop) ≡ Some stop
stop_kept true frame held places keeps stop open_place = rw (append-nil, open_place) at (keeps.stops [] (Some stop))
stop_kept false frame held places keeps stop open_place = refl

none_stops : (in_places : Bool) (frame : List ℕ) (held : ExtensionPlaces) (places : List Place) → AreKept in_places frame held places
    → kept_stop in_places frame places None ≡ None
none_stops true frame held places keeps = rw append-nil at (keeps.stops [] None)
none_stops false frame held places keeps = refl

taken_end : (in_places : Bool) (frame : List ℕ) (held : ExtensionPlaces) (turn : Turn) (start end : ℕ) (more : List Place) (stop : Option (Stop SliceError))
    → (in_places && is_taken turn.kind held) ≡ true → IsLayoutFrom packet_grammar frame (Some turn) start end more stop
    → (kept_from in_places frame held more ≡ []) × (stop_from in_places frame held more stop ≡ None)
taken_end false frame held turn start end more stop taken right = absurd (cc)
taken_end true frame held turn start end [] stop taken right = (refl, rw (right.2, taken) refl)
taken_end true frame held turn start end (p ∷ ps) stop taken right =
    let same : p.kind ≡ turn.kind = ap (λ (place : Place). place.kind) right.1 in
    (rw (same, taken) refl, rw (same, taken) refl)

-- the parts that were gathered, and the part whose turn it is
pub record IsWalking (in_places : Bool) (frame : List ℕ) (first : Option Turn) (parts : Parts) (turn : Option Turn) (start end : ℕ) : Type 0 where
  pub places : List Place
  pub walk : IsWalk packet_grammar frame first 0 (length frame) places turn start end
  pub parts_are : parts ≡ parts_of frame places
  pub keeps : AreKept in_places frame parts.held places
  pub count : TellsCount (length parts.exts) turn

pub walk_begun : (in_places : Bool) (frame : List ℕ) (first : Option Turn) → TellsCount 0 first → IsWalking in_places frame first no_parts first 0 (length frame)
walk_begun in_places frame first counts = record {
  places = [];
  walk = begun packet_grammar frame first 0 (length frame);
  parts_are = refl;
  keeps = none_kept in_places frame;
  count = counts;
}

module _ (in_places : Bool) (frame : List ℕ) (first : Option Turn) (parts : Parts) (turn : Turn) (start end : ℕ)
    (walking : IsWalking in_places frame first parts (Some turn) start end) where
  module _ (open_place : (in_places && is_taken turn.kind parts.held) ≡ false) where
    pub walk_on : refusal (packet_grammar.form_of turn.kind) (slice_range frame start end) ≡ None
        → (place : Place) → place ≡ place_of packet_grammar turn.kind (slice_range frame start end) start end
        → (next : Option Turn) → next ≡ packet_grammar.next turn (header packet_grammar turn.kind (slice_range frame start end))
        → IsWalking in_places frame first (with_part frame place (part_at frame place) parts) next place.body place.end
    walk_on accepted place is next next_is =
        let same_kind : place.kind ≡ turn.kind = ap (λ (p : Place). p.kind) is in
        let more = one_more packet_grammar frame first 0 (length frame) walking.places turn start end walking.walk accepted in
        let one = one_more_kept frame parts.held place in_places walking.places walking.keeps (rw same_kind open_place) in
        let counts = next_counts turn.kind turn.link_exts turn.fragmented (header packet_grammar turn.kind (slice_range frame start end))
        (rw walking.count.0 walking.count.1) in
        let counted : length (with_part frame place (part_at frame place) parts).exts ≡ count_behind turn.kind turn.link_exts
        = count_with frame place parts ∙ (rw (same_kind, walking.count.0) refl) in
        record {
          places = walking.places ++ place ∷ [];
          walk = rw (is, next_is) more;
          parts_are = rw walking.parts_are (sym (parts_behind-one_more frame no_parts walking.places place));
          keeps = rw (held_with frame place parts) one;
          count = rw (counted, next_is) counts;
        }

    pub walk_stopped : (why : SliceError) → refusal (packet_grammar.form_of turn.kind) (slice_range frame start end) ≡ Some why
        → IsWalked in_places frame first parts (Some (record { kind = turn.kind; start = start; refusal = why }))
    walk_stopped why refused =
        let stop : Stop SliceError = record { kind = turn.kind; start = start; refusal = why } in
        record {
          places = walking.places;
          last = Some stop;
          layout = stopped packet_grammar frame first 0 (length frame) walking.places turn start end why walking.walk refused;
          parts_are = rw (all_kept in_places frame parts.held walking.places walking.keeps) walking.parts_are;
          stopped = sym (stop_kept in_places frame parts.held walking.places walking.keeps stop open_place);
        }

  pub walk_taken : (in_places && is_taken turn.kind parts.held) ≡ true → IsWalked in_places frame first parts None
  walk_taken taken =
      let rest = some packet_grammar frame packets_orderly (Some turn) start end in
      let none = taken_end in_places frame parts.held turn start end rest.0 rest.1 taken rest.2 in
      let kept : kept_places in_places frame (walking.places ++ rest.0) ≡ walking.places
      = walking.keeps.kept rest.0 ∙ (rw (none.0) (append-nil walking.places)) in
      record {
        places = walking.places ++ rest.0;
        last = rest.1;
        layout = walking.walk.joins rest.0 rest.1 rest.2;
        parts_are = rw kept walking.parts_are;
        stopped = sym (walking.keeps.stops rest.0 rest.1 ∙ none.1);
      }

pub walk_ended : (in_places : Bool) (frame : List ℕ) (first : Option Turn) (parts : Parts) (start end : ℕ)
    → IsWalking in_places frame first parts None start end → IsWalked in_places frame first parts None
walk_ended in_places frame first parts start end walking = record {
  places = walking.places;
  last = None;
  layout = ended packet_grammar frame first 0 (length frame) walking.places start end walking.walk;
  parts_are = rw (all_kept in_places frame parts.held walking.places walking.keeps) walking.parts_are;
  stopped = sym (none_stops in_places frame parts.held walking.places walking.keeps);
}
