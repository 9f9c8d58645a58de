-- The part that some bytes of a frame begin with, by its place in the frame.
use Rattle.std.proofs.Common.{◌≡◌, ℕ, ◌+◌, ◌-◌, ◌<◌, ◌≤◌, min, Bool, List, length, take, drop, Option, Some, None, refl, sym, ap, ◌∙◌, arith}
use Rattle.std.specs.Prelude.{slice_range}
use Rattle.std.proofs.lemmas.List.{length-take, length-drop, take-take}
use Rattle.ether_link.specs.Form.{header_len, refusal}
use Rattle.ether_link.specs.Layout.{header, place_of, window_end, IsLayoutFrom}
use Rattle.ether_link.specs.Places.{header_at, is_cut_off}
use Rattle.ether_link.specs.declared.len_source.LenSource.{LenSource}
use Rattle.ether_link.specs.declared.layout.PartKind.{PartKind}
use Rattle.ether_link.specs.declared.layout.PartKind.TheVariants as kind
use Rattle.ether_link.specs.declared.layout.Place.{Place}
use Rattle.ether_link.specs.declared.layout.Turn.{Turn}
use Rattle.ether_link.proofs.FormLemmas.{has_header, is_header}
use Rattle.ether_link.proofs.LayoutLemmas.{window-within}
use Rattle.ether_link.proofs.RangeLemmas.{header_is}
use Rattle.ether_ip.specs.PacketGrammar.{packet_grammar}
use Rattle.ether_ip.proofs.PacketLemmas.{packets_orderly, packets_cuttable}
use Rattle.ether_lax.specs.Parts.{part_in, part_of, part_at, there, whole_at, source_by, source_at, is_incomplete}
use Rattle.ether_lax.specs.Steps.{IsHeaderOf, IsBetween, IsStep}
use Rattle.ether_lax.specs.declared.step.Part.{Part}

-- the header of an accepted part is a header by itself
pub header_alone : (part : PartKind) (bytes : List ℕ) → refusal (packet_grammar.form_of part) bytes ≡ None → IsHeaderOf part (header packet_grammar part bytes)
header_alone kind.Icmpv4 bytes accepted = tt
header_alone kind.Icmpv6 bytes accepted = tt
header_alone other bytes accepted = is_header (packet_grammar.form_of other) bytes (packets_cuttable.open_end other (take (packet_grammar.form_of other).least bytes) refl) accepted

range_length : (frame : List ℕ) (start end : ℕ) → end ≤ length frame → length (slice_range frame start end) ≡ end - start
range_length frame start end within = omega (arith, length-take (end - start) (drop start frame), length-drop start frame)

window_from : (start end : ℕ) (said : Option ℕ) → start ≤ end → window_end start end said ≡ start + window_end 0 (end - start) said
window_from start end None order = omega arith
window_from start end (Some said) order = omega arith

window_there : (there : ℕ) (said : Option ℕ) → window_end 0 there said ≤ there
window_there there None = omega arith
window_there there (Some said) = omega arith

covered : (len there : ℕ) (said : Option ℕ) → len ≤ there → ((n : ℕ) → said ≡ Some n → len ≤ n) → len ≤ window_end 0 there said
covered len there None fits room = fits
covered len there (Some n) fits room = let enough = room n refl in omega arith

module _ (frame : List ℕ) (part : PartKind) (start end : ℕ) (order : start ≤ end) (within : end ≤ length frame)
    (accepted : refusal (packet_grammar.form_of part) (slice_range frame start end) ≡ None) where
  abbrev pub len : ℕ
  len = header_len (packet_grammar.form_of part) (slice_range frame start end)

  abbrev pub said : Option ℕ
  said = packet_grammar.announced part (header packet_grammar part (slice_range frame start end))

  abbrev pub place : Place
  place = place_of packet_grammar part (slice_range frame start end) start end

  inside : len ≤ length (slice_range frame start end)
  inside = has_header (packet_grammar.form_of part) (slice_range frame start end) accepted

  bytes_there : length (slice_range frame start end) ≡ end - start
  bytes_there = range_length frame start end within

  pub header_here : header packet_grammar part (slice_range frame start end) ≡ header_at frame place
  header_here = header_is frame start end len inside

  pub end_here : place.end ≡ start + window_end 0 (length (slice_range frame start end)) said
  end_here = rw bytes_there (window_from start end said order)

  pub there_here : there place ≡ window_end 0 (length (slice_range frame start end)) said
  there_here = let at_end = end_here in omega arith

  whole_here : take (window_end 0 (length (slice_range frame start end)) said) (slice_range frame start end) ≡ whole_at frame place
  whole_here =
      let at_end = end_here in
      let fits = window_there (length (slice_range frame start end)) said in
      let room : window_end 0 (length (slice_range frame start end)) said ≤ end - start = omega (arith, bytes_there) in
      let same : place.end - start ≡ window_end 0 (length (slice_range frame start end)) said = omega arith in
      rw same (take-take (window_end 0 (length (slice_range frame start end)) said) (end - start) (drop start frame) room)

  pub part_here : part_of part (slice_range frame start end) ≡ part_at frame place
  part_here = rw (whole_here, header_here) refl

  pub between : IsBetween start end place
  between =
      let positive = packets_orderly.positive part (slice_range frame start end) accepted in
      let room = covered len (length (slice_range frame start end)) said inside (λ n says. packets_orderly.covers part (slice_range frame start end) n accepted says) in
      let at_end = end_here in
      let fits = window_there (length (slice_range frame start end)) said in
      let there_is = bytes_there in
      record { begins = refl; header = omega arith; window = omega arith; within = omega arith }

-- what a reader found by numbers, by the place
pub stepped : (frame : List ℕ) (turn : Turn) (start end : ℕ) (order : start ≤ end) (within : end ≤ length frame)
    (accepted : refusal (packet_grammar.form_of turn.kind) (slice_range frame start end) ≡ None)
    (header_bytes there_bytes : ℕ) (announced : Option ℕ) (part : Part) (source : LenSource) (incomplete : Bool) (next : Option Turn)
    → header_bytes ≡ header_len (packet_grammar.form_of turn.kind) (slice_range frame start end)
    → announced ≡ packet_grammar.announced turn.kind (take header_bytes (slice_range frame start end))
    → there_bytes ≡ window_end 0 (length (slice_range frame start end)) announced
    → part ≡ part_of turn.kind (slice_range frame start end)
    → source ≡ source_by turn.kind (take header_bytes (slice_range frame start end)) there_bytes
    → incomplete ≡ is_cut_off 0 there_bytes announced
    → next ≡ packet_grammar.next turn (take header_bytes (slice_range frame start end))
    → IsStep frame turn start end (record { kind = turn.kind; start = start; body = start + header_bytes; end = start + there_bytes }) part source incomplete next
stepped frame turn start end order within accepted header_bytes there_bytes announced part source incomplete next len_is said_is there_is part_is source_is incomplete_is next_is =
    let bytes = slice_range frame start end in
    let here = place frame turn.kind start end order within accepted in
    let whole = ap (λ n. take n (slice_range frame start end)) len_is in
    let header_is_here : take header_bytes (slice_range frame start end) ≡ header_at frame here = whole ∙ header_here frame turn.kind start end order within accepted in
    let said_here : announced ≡ packet_grammar.announced turn.kind (header packet_grammar turn.kind (slice_range frame start end))
    = said_is ∙ ap (packet_grammar.announced turn.kind) whole in
    let room : there_bytes ≡ there here
    = there_is ∙ ap (window_end 0 (length (slice_range frame start end))) said_here ∙ sym (there_here frame turn.kind start end order within accepted) in
    let inside = between frame turn.kind start end order within accepted in
    let at_end : start + there_bytes ≡ here.end = omega arith in
    let at_body : start + header_bytes ≡ here.body = ap (λ n. start + n) len_is in
    let is : record { kind = turn.kind; start = start; body = start + header_bytes; end = start + there_bytes } ≡ here = rw (at_body, at_end) refl in
    rw is (record {
      place_is = refl;
      part_is = part_is ∙ part_here frame turn.kind start end order within accepted;
      source_is = source_is ∙ (rw (header_is_here, room) refl);
      incomplete_is = incomplete_is ∙ (rw (room, said_is, header_is_here) refl);
      next_is = next_is ∙ ap (packet_grammar.next turn) whole;
      between = inside;
    })
