-- What a reader knows that walks along extension headers.
use Rattle.std.proofs.Common.{◌≡◌, ℕ, ◌+◌, ◌-◌, ◌≤◌, Bool, List, [], ◌∷◌, ◌++◌, length, take, drop, Option, Some, None, refl, sym, ap, ◌∙◌, arith}
use Rattle.std.specs.Prelude.{slice_range, slice_index}
use Rattle.std.proofs.lemmas.List.{length-take, length-take-le, length-drop}
use Rattle.ether_link.specs.Form.{header_len, refusal}
use Rattle.ether_link.specs.Layout.{IsLayoutFrom, place_of}
use Rattle.ether_link.specs.Places.{header_at, end_of_headers}
use Rattle.ether_link.specs.declared.layout.Place.{Place}
use Rattle.ether_link.specs.declared.layout.PartKind.{PartKind}
use Rattle.ether_link.specs.declared.layout.PartKind.TheVariants.{Route, Fragment, DestinationOptions, Ipv4Auth, Ipv6Auth}
use Rattle.ether_link.proofs.FormLemmas.{has_header}
use Rattle.ether_link.proofs.WalkLemmas.{IsWalk, begun, one_more, ended, stopped, end_of_headers-one_more}
use Rattle.ether_link.proofs.RangeLemmas.{header_is}
use Rattle.ether_ip.specs.ExtensionGrammar.{extension_grammar, extension_form_of, kind_behind, turn_to, fragmented_behind}
use Rattle.ether_ip.specs.Chain.{number_behind, is_fragmented, chain_errors}
use Rattle.ether_ip.specs.Extensions.{bytes_of_extension, extension_slice, fragmented_by}
use Rattle.ether_ip.specs.declared.err.ipv6_exts.HeaderSliceError.{HeaderSliceError}
use Rattle.ether_ip.specs.declared.ip.exts.Ipv6ExtensionSlice.{Ipv6ExtensionSlice}

number_behind-one_more : (bytes : List ℕ) (number : ℕ) (places : List Place) (place : Place)
    → number_behind bytes number (places ++ place ∷ []) ≡ slice_index (header_at bytes place) 0
number_behind-one_more bytes number [] place = refl
number_behind-one_more bytes number (p ∷ ps) place = number_behind-one_more bytes (slice_index (header_at bytes p) 0) ps place

is_fragmented-one_more : (bytes : List ℕ) (before : Bool) (places : List Place) (place : Place)
    → is_fragmented bytes before (places ++ place ∷ []) ≡ fragmented_behind place.kind (is_fragmented bytes before places) (header_at bytes place)
is_fragmented-one_more bytes before [] place = refl
is_fragmented-one_more bytes before (p ∷ ps) place = is_fragmented-one_more bytes (fragmented_behind p.kind before (header_at bytes p)) ps place

bytes_of-slice : (kind : PartKind) (bytes : List ℕ) → bytes_of_extension (extension_slice kind bytes) ≡ bytes
bytes_of-slice Route bytes = refl
bytes_of-slice Fragment bytes = refl
bytes_of-slice DestinationOptions bytes = refl
bytes_of-slice Ipv4Auth bytes = refl
bytes_of-slice Ipv6Auth bytes = refl
bytes_of-slice other bytes = refl

fragmented_by-slice : (before : Bool) (kind : PartKind) (bytes : List ℕ)
    → fragmented_by before (extension_slice kind bytes) ≡ fragmented_behind kind before bytes
fragmented_by-slice before Route bytes = refl
fragmented_by-slice before Fragment bytes = refl
fragmented_by-slice before DestinationOptions bytes = refl
fragmented_by-slice before Ipv4Auth bytes = refl
fragmented_by-slice before Ipv6Auth bytes = refl
fragmented_by-slice before other bytes = refl

rest_len : (bytes : List ℕ) (at end : ℕ) → length (slice_range bytes at end) ≤ end - at
rest_len bytes at end = omega (arith, length-take (end - at) (drop at bytes), length-drop at bytes)

module _ (packet : List ℕ) (first : Option PartKind) (start : ℕ) (fragment : Bool) (from to : ℕ) where
  -- the places that were read, and what they say of the part that is named
  pub record IsExtensionWalk (at number : ℕ) (fragmented : Bool) (named : Option PartKind) (places : List Place) : Type 0 where
    pub walk : IsWalk (extension_grammar chain_errors) packet (turn_to 0 fragment first) from to places (turn_to 0 fragmented named) at to
    pub at_end : at ≡ end_of_headers from places
    pub within : at ≤ to
    pub next_is : number ≡ number_behind packet start places
    pub fragmented_is : fragmented ≡ is_fragmented packet fragment places

  pub extensions_begun : from ≤ to → IsExtensionWalk from start fragment first []
  extensions_begun order = record {
    walk = begun (extension_grammar chain_errors) packet (turn_to 0 fragment first) from to;
    at_end = refl;
    within = order;
    next_is = refl;
    fragmented_is = refl;
  }

  module _ (at number : ℕ) (fragmented : Bool) (kind : PartKind) (places : List Place)
      (extensions : IsExtensionWalk at number fragmented (Some kind) places) where
    pub extensions_stopped : (why : HeaderSliceError) → refusal (extension_form_of chain_errors kind) (slice_range packet at to) ≡ Some why
        → IsLayoutFrom (extension_grammar chain_errors) packet (turn_to 0 fragment first) from to places
        (Some (record { kind = kind; start = at; refusal = why }))
    extensions_stopped why refused = stopped (extension_grammar chain_errors) packet (turn_to 0 fragment first) from to
        places (record { kind = kind; link_exts = 0; fragmented = fragmented }) at to why extensions.walk refused

    -- the place of the header that is named
    abbrev pub place_here : Place
    place_here = place_of (extension_grammar chain_errors) kind (slice_range packet at to) at to

    pub extensions_go_on : (len : ℕ) → refusal (extension_form_of chain_errors kind) (slice_range packet at to) ≡ None
        → len ≡ header_len (extension_form_of chain_errors kind) (slice_range packet at to)
        → IsExtensionWalk (at + len) (slice_index (slice_range packet at (at + len)) 0) (fragmented_behind kind fragmented (slice_range packet at (at + len)))
        (kind_behind kind (slice_index (slice_range packet at (at + len)) 0)) (places ++ place_here ∷ [])
    extensions_go_on len accepted len_is =
        let there = has_header (extension_form_of chain_errors kind) (slice_range packet at to) accepted in
        let inside = extensions.within in
        let room = rest_len packet at to in
        let fits : at + header_len (extension_form_of chain_errors kind) (slice_range packet at to) ≤ to = omega arith in
        let step = one_more (extension_grammar chain_errors) packet (turn_to 0 fragment first) from to
        places (record { kind = kind; link_exts = 0; fragmented = fragmented }) at to extensions.walk accepted in
        let header = slice_range packet at (at + header_len (extension_form_of chain_errors kind) (slice_range packet at to)) in
        let by_place = rw (header_is packet at to (header_len (extension_form_of chain_errors kind) (slice_range packet at to)) there) at step in
        rw len_is (record {
          walk = by_place;
          at_end = sym (end_of_headers-one_more from places place_here);
          within = fits;
          next_is = sym (number_behind-one_more packet start places place_here);
          fragmented_is = ap (λ before. fragmented_behind kind before header) extensions.fragmented_is
              ∙ sym (is_fragmented-one_more packet fragment places place_here);
        })

    -- the same by the header that was read
    pub extensions_go_on_by : (header : Ipv6ExtensionSlice) → refusal (extension_form_of chain_errors kind) (slice_range packet at to) ≡ None
        → header ≡ extension_slice kind (take (header_len (extension_form_of chain_errors kind) (slice_range packet at to)) (slice_range packet at to))
        → IsExtensionWalk (at + length (bytes_of_extension header)) (slice_index (bytes_of_extension header) 0) (fragmented_by fragmented header)
        (kind_behind kind (slice_index (bytes_of_extension header) 0)) (places ++ place_here ∷ [])
    extensions_go_on_by header accepted is =
        let form = extension_form_of chain_errors kind in
        let there = has_header (extension_form_of chain_errors kind) (slice_range packet at to) accepted in
        let in_place = header_is packet at to (header_len (extension_form_of chain_errors kind) (slice_range packet at to)) there in
        let bytes = ap bytes_of_extension is ∙ bytes_of-slice kind _ in
        let len : length (bytes_of_extension header) ≡ header_len (extension_form_of chain_errors kind) (slice_range packet at to)
        = ap length bytes ∙ length-take-le (header_len (extension_form_of chain_errors kind) (slice_range packet at to)) (slice_range packet at to) there in
        let named = bytes ∙ in_place in
        let says = ap (fragmented_by fragmented) is ∙ fragmented_by-slice fragmented kind _ ∙ ap (fragmented_behind kind fragmented) in_place in
        rw (len, named, says)
        (extensions_go_on (header_len (extension_form_of chain_errors kind) (slice_range packet at to)) accepted refl)

  pub extensions_ended : (at number : ℕ) (fragmented : Bool) (places : List Place) → IsExtensionWalk at number fragmented None places
      → IsLayoutFrom (extension_grammar chain_errors) packet (turn_to 0 fragment first) from to places None
  extensions_ended at number fragmented places extensions =
      ended (extension_grammar chain_errors) packet (turn_to 0 fragment first) from to places at to extensions.walk
