-- The parts of a frame, listed one after another.
use Rattle.std.proofs.Common.{◌≡◌, ℕ, ◌≤◌, Bool, true, false, List, [], ◌∷◌, ◌++◌, length, Option, Some, None, ap, sym, subst, ◌∙◌, refl, append_assoc, append-nil}
use Rattle.std.specs.Prelude.{slice_range, ◌&&◌, not}
use Rattle.ether_link.specs.Form.{refusal}
use Rattle.ether_link.specs.Layout.{header, place_of}
use Rattle.ether_link.specs.declared.layout.PartKind.TheVariants.{Ethernet2}
use Rattle.ether_link.specs.Places.{header_at}
use Rattle.ether_link.specs.declared.layout.Place.{Place}
use Rattle.ether_link.specs.declared.layout.Turn.{Turn}
use Rattle.ether_link.proofs.WalkLemmas.{IsWalk, begun, one_more, ended, stopped}
use Rattle.ether_ip.specs.Held.{no_extensions, is_taken, held_by}
use Rattle.ether_ip.specs.PacketGrammar.{packet_grammar}
use Rattle.ether_ip.specs.declared.err.packet.SliceError.{SliceError}
use Rattle.ether_lax.specs.Agreement.{AreFree}
use Rattle.ether_lax.specs.Found.{Parts, no_parts, parts_of, with_part}
use Rattle.ether_lax.specs.Notes.{stop_layer}
use Rattle.ether_lax.specs.Parts.{part_at, whole_at}
use Rattle.ether_lax.specs.Steps.{MayStandBehind, TellsCount, count_behind, begins_with}
use Rattle.ether_lax.proofs.FoundLemmas.{parts_behind-one_more}
use Rattle.ether_lax.proofs.WalkLemmas.{next_counts}
use Rattle.ether_lax.specs.declared.step.Part as packet
use Rattle.capture_explain.specs.Parts.{part_with, parts_at, ah_in, ah_at}
use Rattle.capture_explain.specs.Dissected.{HasLayers}
use Rattle.capture_explain.specs.Seen.{held_with, payload_with, esp_at, LiesWithin}
use Rattle.capture_explain.specs.declared.layers.Layers.{Layers}
use Rattle.capture_explain.specs.declared.parts.Part.{Part}
use Rattle.capture_explain.specs.declared.parts.AhPart.{AhPart}
use Rattle.capture_explain.specs.declared.seen.Payload.{Payload}
use Rattle.capture_explain.specs.declared.seen.Seen.{Seen}
use Rattle.capture_explain.proofs.SeenLemmas.{held_in, held_by-one_more, free-one_more, free-stopped, IsTold, told_behind, lies_within, esp_found}

-- the part whose turn it is may stand where it stands
abbrev pub IsReady : Option Turn → Type 0
IsReady None = Unit {0}
IsReady (Some turn) = MayStandBehind turn.kind turn.link_exts

ready : (count : ℕ) (turn : Option Turn) → TellsCount count turn → IsReady turn
ready count None told = tt
ready count (Some turn) told = rw told.0 told.1

-- what the parts at some places said
pub record IsSeen (frame : List ℕ) (places : List Place) (seen : Seen) : Type 0 where
  pub held_are : seen.held ≡ held_by frame no_extensions places
  pub free_are : seen.free ≡ true → AreFree frame no_extensions places None
  pub told : IsTold frame seen.payload (parts_of frame places)
  pub lies : LiesWithin (length frame) seen.payload

-- the parts that were listed, and the part whose turn it is
pub record IsListing (frame : List ℕ) (parts : List Part) (ah : List AhPart) (seen : Seen) (turn : Option Turn) (start end : ℕ) : Type 0 where
  pub places : List Place
  pub walk : IsWalk packet_grammar frame (begins_with Ethernet2) 0 (length frame) places turn start end
  pub parts_are : parts ≡ parts_at frame places
  pub ah_are : ah ≡ ah_at frame places
  pub is_seen : IsSeen frame places seen
  pub may : IsReady turn

pub listing_begun : (frame : List ℕ) (seen : Seen) → seen.held ≡ no_extensions → seen.payload ≡ None
    → IsListing frame [] [] seen (begins_with Ethernet2) 0 (length frame)
listing_begun frame seen held_is payload_is = record {
  places = [];
  walk = begun packet_grammar frame (begins_with Ethernet2) 0 (length frame);
  parts_are = refl;
  ah_are = refl;
  is_seen = record {
    held_are = held_is;
    free_are = λ free. tt;
    told = rw payload_is tt;
    lies = rw payload_is tt;
  };
  may = refl;
}

both_free : (free taken more : Bool) → more ≡ true → more ≡ (free && not taken) → (free ≡ true) × (taken ≡ false)
both_free true false more is same = (refl, refl)
both_free true true more is same = absurd (cc)
both_free false taken more is same = absurd (cc)

seen_on : (frame : List ℕ) (places : List Place) (seen more : Seen) (place : Place) → IsSeen frame places seen
    → place.body ≤ place.end → place.end ≤ length frame
    → more.held ≡ held_with (part_at frame place) seen.held
    → more.free ≡ (seen.free && not (is_taken place.kind seen.held))
    → more.payload ≡ payload_with place (part_at frame place) seen.payload
    → IsSeen frame (places ++ place ∷ []) more
seen_on frame places seen more place was window within held_grow free_is payload_is = record {
  held_are = held_grow ∙ ap (held_with (part_at frame place)) was.held_are
      ∙ held_in place.kind (header_at frame place) (whole_at frame place) (held_by frame no_extensions places)
      ∙ sym (held_by-one_more frame no_extensions places place);
  free_are = λ now.
      let both = both_free seen.free (is_taken place.kind seen.held) more.free now free_is in
      free-one_more frame no_extensions places place (was.free_are both.0) (rw was.held_are at both.1);
  told =
      let behind = told_behind frame place (part_at frame place) (parts_of frame places) seen.payload was.told in
      let here = subst (λ (p : Option Payload). IsTold frame p (with_part frame place (part_at frame place) (parts_of frame places))) (sym payload_is) behind in
      subst (λ (w : Parts). IsTold frame more.payload w) (sym (parts_behind-one_more frame no_parts places place)) here;
  lies = rw payload_is (lies_within (length frame) place (part_at frame place) seen.payload window within was.lies);
}

parts-one_more : (frame : List ℕ) (places : List Place) (place : Place)
    → parts_at frame (places ++ place ∷ []) ≡ parts_at frame places ++ part_with place (part_at frame place) ∷ []
parts-one_more frame [] place = refl
parts-one_more frame (p ∷ ps) place = ap (λ l. part_with p (part_at frame p) ∷ l) (parts-one_more frame ps place)

ah-one_more : (frame : List ℕ) (places : List Place) (place : Place)
    → ah_at frame (places ++ place ∷ []) ≡ ah_at frame places ++ ah_in (part_at frame place)
ah-one_more frame [] place = append-nil (ah_in (part_at frame place))
ah-one_more frame (p ∷ ps) place =
    ap (λ l. ah_in (part_at frame p) ++ l) (ah-one_more frame ps place)
    ∙ sym (append_assoc (ah_in (part_at frame p)) (ah_at frame ps) (ah_in (part_at frame place)))

module _ (frame : List ℕ) (parts : List Part) (ah : List AhPart) (seen : Seen) (turn : Turn) (start end : ℕ)
    (listing : IsListing frame parts ah seen (Some turn) start end) where
  -- one part more
  pub listing_on : refusal (packet_grammar.form_of turn.kind) (slice_range frame start end) ≡ None
      → (place : Place) → place ≡ place_of packet_grammar turn.kind (slice_range frame start end) start end
      → (part : packet.Part) → part ≡ part_at frame place
      → (next : Option Turn) → next ≡ packet_grammar.next turn (header packet_grammar turn.kind (slice_range frame start end))
      → (more_parts : List Part) → more_parts ≡ parts ++ part_with place part ∷ []
      → (more_ah : List AhPart) → more_ah ≡ ah ++ ah_in part
      → place.body ≤ place.end → place.end ≤ length frame
      → (more_seen : Seen) → more_seen.held ≡ held_with part seen.held
      → more_seen.free ≡ (seen.free && not (is_taken place.kind seen.held))
      → more_seen.payload ≡ payload_with place part seen.payload
      → IsListing frame more_parts more_ah more_seen next place.body place.end
  listing_on accepted place is part part_is next next_is more_parts parts_grow more_ah ah_grows window within more_seen held_grow free_is payload_is =
      let more = one_more packet_grammar frame (begins_with Ethernet2) 0 (length frame) listing.places turn start end listing.walk accepted in
      let counts = next_counts turn.kind turn.link_exts turn.fragmented (header packet_grammar turn.kind (slice_range frame start end))
      listing.may in
      record {
        places = listing.places ++ place ∷ [];
        walk = rw (is, next_is) more;
        parts_are = parts_grow ∙ ap (λ l. l ++ part_with place part ∷ []) listing.parts_are
            ∙ ap (λ (p : packet.Part). parts_at frame listing.places ++ part_with place p ∷ []) part_is
            ∙ sym (parts-one_more frame listing.places place);
        ah_are = ah_grows ∙ ap (λ l. l ++ ah_in part) listing.ah_are
            ∙ ap (λ (p : packet.Part). ah_at frame listing.places ++ ah_in p) part_is ∙ sym (ah-one_more frame listing.places place);
        is_seen = seen_on frame listing.places seen more_seen place listing.is_seen window within
            (held_grow ∙ ap (λ (p : packet.Part). held_with p seen.held) part_is) free_is
            (payload_is ∙ ap (λ (p : packet.Part). payload_with place p seen.payload) part_is);
        may = rw next_is (ready (count_behind turn.kind turn.link_exts) _ counts);
      }

  -- the part is refused
  pub listing_stopped : (why : SliceError) → refusal (packet_grammar.form_of turn.kind) (slice_range frame start end) ≡ Some why
      → (layers : Layers) → layers.parts ≡ parts → layers.ah ≡ ah → layers.esp ≡ None
      → layers.free ≡ (seen.free && not (is_taken turn.kind seen.held))
      → layers.stop ≡ stop_layer (Some (record { kind = turn.kind; start = start; refusal = why })) → HasLayers frame layers
  listing_stopped why refused layers same same_ah same_esp free_is stop_is = record {
    places = listing.places;
    stop = Some (record { kind = turn.kind; start = start; refusal = why });
    layout = stopped packet_grammar frame (begins_with Ethernet2) 0 (length frame) listing.places turn start end why listing.walk refused;
    parts_are = same ∙ listing.parts_are;
    ah_are = same_ah ∙ listing.ah_are;
    stop_is = stop_is;
    esp_is = same_esp;
    free_are = λ now.
        let both = both_free seen.free (is_taken turn.kind seen.held) layers.free now free_is in
        free-stopped frame no_extensions listing.places (record { kind = turn.kind; start = start; refusal = why })
        (listing.is_seen.free_are both.0) (rw listing.is_seen.held_are at both.1);
  }

-- no part is named
pub listing_ended : (frame : List ℕ) (parts : List Part) (ah : List AhPart) (seen : Seen) (start end : ℕ)
    → IsListing frame parts ah seen None start end → (layers : Layers) → layers.parts ≡ parts → layers.ah ≡ ah
    → layers.esp ≡ esp_at frame seen.payload → layers.free ≡ seen.free → layers.stop ≡ None → HasLayers frame layers
listing_ended frame parts ah seen start end listing layers same same_ah same_esp same_free stop_is = record {
  places = listing.places;
  stop = None;
  layout = ended packet_grammar frame (begins_with Ethernet2) 0 (length frame) listing.places start end listing.walk;
  parts_are = same ∙ listing.parts_are;
  ah_are = same_ah ∙ listing.ah_are;
  stop_is = stop_is;
  esp_is = same_esp ∙ esp_found frame seen.payload (parts_of frame listing.places) listing.is_seen.told;
  free_are = λ now. listing.is_seen.free_are (sym same_free ∙ now);
}
