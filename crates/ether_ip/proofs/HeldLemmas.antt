-- What a reader knows that puts extension headers into their places.
use Rattle.std.proofs.Common.{◌≡◌, ℕ, ◌<◌, Bool, true, false, List, [], ◌∷◌, ◌++◌, take, Option, Some, None, refl, sym, ap, ◌∙◌, arith}
use Rattle.std.specs.Prelude.{slice_range}
use Rattle.std.proofs.lemmas.List.{append-nil, append_assoc}
use Rattle.ether_link.specs.Form.{header_len, refusal}
use Rattle.ether_link.specs.Layout.{IsLayoutFrom, IsOrderly, place_of}
use Rattle.ether_link.specs.Places.{header_at}
use Rattle.ether_link.specs.declared.layout.Place.{Place}
use Rattle.ether_link.specs.declared.layout.Stop.{Stop}
use Rattle.ether_link.specs.declared.layout.PartKind.{PartKind}
use Rattle.ether_link.specs.declared.layout.PartKind.TheVariants.{HopByHop, LateHopByHop, Route, Fragment, DestinationOptions, Ipv4Auth, Ipv6Auth}
use Rattle.ether_link.proofs.FormLemmas.{no_early, has_header}
use Rattle.ether_link.proofs.LayoutLemmas.{some}
use Rattle.ether_link.proofs.RangeLemmas.{header_is}
use Rattle.ether_ip.specs.ExtensionGrammar.{ExtensionErrors, extension_grammar, extension_form_of, turn_to}
use Rattle.ether_ip.specs.Chain.{chain_errors}
use Rattle.ether_ip.specs.Extensions.{extension_slice}
use Rattle.ether_ip.specs.Held.{no_extensions, is_taken, is_extension, with_extension, with_header, held_by, free_places, free_stop}
use Rattle.ether_ip.specs.HeldWalk.{IsHeldEnd}
use Rattle.ether_ip.specs.declared.err.ipv6_exts.HeaderSliceError.{HeaderSliceError}
use Rattle.ether_ip.specs.declared.ip.ext_places.ExtensionPlaces.{ExtensionPlaces}
use Rattle.ether_ip.specs.declared.ip.exts.Ipv6ExtensionSlice.{Ipv6ExtensionSlice}
use Rattle.ether_ip.proofs.WalkLemmas.{IsExtensionWalk, extensions_stopped, extensions_ended}

pub extension_positive : {E : Type 0} (errors : ExtensionErrors E) (kind : PartKind) (bytes : List ℕ)
    → refusal (extension_form_of errors kind) bytes ≡ None → 0 < header_len (extension_form_of errors kind) bytes
extension_positive errors HopByHop bytes accepted = omega arith
extension_positive errors Route bytes accepted = omega arith
extension_positive errors Fragment bytes accepted = omega arith
extension_positive errors DestinationOptions bytes accepted = omega arith
extension_positive errors Ipv4Auth bytes accepted = omega arith
extension_positive errors Ipv6Auth bytes accepted = omega arith
extension_positive errors kind bytes accepted = let refused = no_early (extension_form_of errors kind) bytes accepted in absurd (cc)

pub extensions_are_orderly : {E : Type 0} (errors : ExtensionErrors E) → IsOrderly (extension_grammar errors)
extensions_are_orderly errors = record {
  positive = extension_positive errors;
  covers = λ kind bytes said accepted is. absurd (cc);
}

held_by-one_more : (bytes : List ℕ) (held : ExtensionPlaces) (places : List Place) (place : Place)
    → held_by bytes held (places ++ place ∷ []) ≡ with_header place.kind (header_at bytes place) (held_by bytes held places)
held_by-one_more bytes held [] place = refl
held_by-one_more bytes held (p ∷ ps) place = held_by-one_more bytes (with_header p.kind (header_at bytes p) held) ps place

-- the places that were read are free, whatever follows
pub record AreFree (packet : List ℕ) (held : ExtensionPlaces) (places : List Place) : Type 0 where
  pub held_is : held ≡ held_by packet no_extensions places
  pub free : (more : List Place) → free_places packet no_extensions (places ++ more) ≡ places ++ free_places packet held more
  pub stops : (more : List Place) (stop : Option (Stop HeaderSliceError))
      → free_stop packet no_extensions (places ++ more) stop ≡ free_stop packet held more stop

pub none_taken : (packet : List ℕ) → AreFree packet no_extensions []
none_taken packet = record { held_is = refl; free = λ more. refl; stops = λ more stop. refl }

free-open : (packet : List ℕ) (held : ExtensionPlaces) (place : Place) (more : List Place) → is_taken place.kind held ≡ false
    → free_places packet held (place ∷ more) ≡ place ∷ free_places packet (with_header place.kind (header_at packet place) held) more
free-open packet held place more open_place = rw open_place refl

stop-open : (packet : List ℕ) (held : ExtensionPlaces) (place : Place) (more : List Place) (stop : Option (Stop HeaderSliceError))
    → is_taken place.kind held ≡ false
    → free_stop packet held (place ∷ more) stop ≡ free_stop packet (with_header place.kind (header_at packet place) held) more stop
stop-open packet held place more stop open_place = rw open_place refl

pub one_more_free : (packet : List ℕ) (held : ExtensionPlaces) (places : List Place) (place : Place) → AreFree packet held places
    → is_taken place.kind held ≡ false → AreFree packet (with_header place.kind (header_at packet place) held) (places ++ place ∷ [])
one_more_free packet held places place frees open_place = record {
  held_is = ap (with_header place.kind (header_at packet place)) frees.held_is ∙ sym (held_by-one_more packet no_extensions places place);
  free = λ more. rw (
    append_assoc places (place ∷ []) more,
    append_assoc places (place ∷ []) (free_places packet (with_header place.kind (header_at packet place) held) more),
  )
      (frees.free (place ∷ more) ∙ ap (λ rest. places ++ rest) (free-open packet held place more open_place));
  stops = λ more stop. rw (append_assoc places (place ∷ []) more) (frees.stops (place ∷ more) stop ∙ stop-open packet held place more stop open_place);
}

-- what is read as an extension header is one
pub extension_accepted : {E : Type 0} (errors : ExtensionErrors E) (kind : PartKind) (bytes : List ℕ)
    → refusal (extension_form_of errors kind) bytes ≡ None → is_extension kind ≡ true
extension_accepted errors HopByHop bytes accepted = refl
extension_accepted errors LateHopByHop bytes accepted = refl
extension_accepted errors Route bytes accepted = refl
extension_accepted errors Fragment bytes accepted = refl
extension_accepted errors DestinationOptions bytes accepted = refl
extension_accepted errors Ipv4Auth bytes accepted = refl
extension_accepted errors Ipv6Auth bytes accepted = refl
extension_accepted errors kind bytes accepted = let refused = no_early (extension_form_of errors kind) bytes accepted in absurd (cc)

-- one header more, as it was read
pub one_more_held : (packet : List ℕ) (held : ExtensionPlaces) (places : List Place) (kind : PartKind) (at to : ℕ) (header : Ipv6ExtensionSlice)
    → refusal (extension_form_of chain_errors kind) (slice_range packet at to) ≡ None
    → header ≡ extension_slice kind (take (header_len (extension_form_of chain_errors kind) (slice_range packet at to)) (slice_range packet at to))
    → AreFree packet held places → is_taken kind held ≡ false
    → AreFree packet (with_extension header held) (places ++ place_of (extension_grammar chain_errors) kind (slice_range packet at to) at to ∷ [])
one_more_held packet held places kind at to header accepted is frees open_place =
    let there = has_header (extension_form_of chain_errors kind) (slice_range packet at to) accepted in
    let in_place = header_is packet at to (header_len (extension_form_of chain_errors kind) (slice_range packet at to)) there in
    let more = one_more_free packet held places (place_of (extension_grammar chain_errors) kind (slice_range packet at to) at to) frees open_place in
    let is_one = extension_accepted chain_errors kind (slice_range packet at to) accepted in
    rw (is, in_place) (rw is_one at more)

module _ (packet : List ℕ) (first : Option PartKind) (start : ℕ) (fragment : Bool) (from to : ℕ)
    (at number : ℕ) (fragmented : Bool) (held : ExtensionPlaces) (places : List Place) (frees : AreFree packet held places) where
  all_free : free_places packet no_extensions places ≡ places
  all_free = rw append-nil at (frees.free [])

  end_of : (named : Option PartKind) → IsExtensionWalk packet first start fragment from to at number fragmented named places
      → (stop : Option (Stop HeaderSliceError)) → IsLayoutFrom (extension_grammar chain_errors) packet (turn_to 0 fragment first) from to places stop
      → stop ≡ free_stop packet no_extensions places stop → IsHeldEnd packet first start fragment from to held at number fragmented stop
  end_of named extensions stop right stopped = record {
    places = places;
    last = stop;
    layout = right;
    held_is = rw all_free frees.held_is;
    at_end = rw all_free extensions.at_end;
    within = extensions.within;
    next_is = rw all_free extensions.next_is;
    fragmented_is = rw all_free extensions.fragmented_is;
    stopped = stopped;
  }

  pub held_ended : IsExtensionWalk packet first start fragment from to at number fragmented None places
      → IsHeldEnd packet first start fragment from to held at number fragmented None
  held_ended extensions = end_of None extensions None (extensions_ended packet first start fragment from to at number fragmented places extensions)
      (sym (rw append-nil at (frees.stops [] None)))

  pub held_stopped : (kind : PartKind) → IsExtensionWalk packet first start fragment from to at number fragmented (Some kind) places
      → is_taken kind held ≡ false → (why : HeaderSliceError) → refusal (extension_form_of chain_errors kind) (slice_range packet at to) ≡ Some why
      → IsHeldEnd packet first start fragment from to held at number fragmented (Some (record { kind = kind; start = at; refusal = why }))
  held_stopped kind extensions open_place why refused =
      let stop : Stop HeaderSliceError = record { kind = kind; start = at; refusal = why } in
      let named = frees.stops [] (Some stop) in
      let kept = rw (append-nil, open_place) at named in
      end_of (Some kind) extensions (Some stop) (extensions_stopped packet first start fragment from to at number fragmented kind places extensions why refused) (sym kept)

  taken_more : (kind : PartKind) → is_taken kind held ≡ true → (more : List Place) (stop : Option (Stop HeaderSliceError))
      → IsLayoutFrom (extension_grammar chain_errors) packet (turn_to 0 fragmented (Some kind)) at to more stop
      → (free_places packet held more ≡ []) × (free_stop packet held more stop ≡ None)
  taken_more kind taken [] stop right = (refl, rw (right.2, taken) refl)
  taken_more kind taken (p ∷ ps) stop right =
      let same : p.kind ≡ kind = ap (λ (place : Place). place.kind) right.1 in
      (rw (same, taken) refl, rw (same, taken) refl)

  pub held_taken : (kind : PartKind) → IsExtensionWalk packet first start fragment from to at number fragmented (Some kind) places
      → is_taken kind held ≡ true → IsHeldEnd packet first start fragment from to held at number fragmented None
  held_taken kind extensions taken =
      let rest = some (extension_grammar chain_errors) packet (extensions_are_orderly chain_errors) (turn_to 0 fragmented (Some kind)) at to in
      let none = taken_more kind taken rest.0 rest.1 rest.2 in
      let kept : free_places packet no_extensions (places ++ rest.0) ≡ places = frees.free rest.0 ∙ (rw (none.0) (append-nil places)) in
      record {
        places = places ++ rest.0;
        last = rest.1;
        layout = extensions.walk.joins rest.0 rest.1 rest.2;
        held_is = rw kept frees.held_is;
        at_end = rw kept extensions.at_end;
        within = extensions.within;
        next_is = rw kept extensions.next_is;
        fragmented_is = rw kept extensions.fragmented_is;
        stopped = sym (frees.stops rest.0 rest.1 ∙ none.1);
      }
