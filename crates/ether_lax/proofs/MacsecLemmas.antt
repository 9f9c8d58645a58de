-- A security tag by itself is the first part of its bytes.
use Rattle.std.proofs.Common.{◌≡◌, ℕ, Bool, List, length, take, Some, None, refl, sym, ap, ◌∙◌, arith}
use Rattle.std.specs.Prelude.{slice_range}
use Rattle.ether_link.specs.Form.{header_len, refusal}
use Rattle.ether_link.specs.Layout.{header, place_of}
use Rattle.ether_link.specs.Macsec.{macsec_slice_form}
use Rattle.ether_link.specs.Places.{header_at}
use Rattle.ether_link.specs.declared.len_source.LenSource.{LenSource}
use Rattle.ether_link.specs.declared.layout.PartKind.TheVariants as kind
use Rattle.ether_link.specs.declared.layout.Place.{Place}
use Rattle.ether_ip.specs.PacketGrammar.{packet_grammar}
use Rattle.ether_lax.specs.LinkExts.{macsec_part}
use Rattle.ether_lax.specs.MacsecParts.{macsec_of}
use Rattle.ether_lax.specs.Parts.{source_at, is_incomplete}
use Rattle.ether_lax.proofs.IpLemmas.{all_bytes}
use Rattle.ether_lax.proofs.MapLemmas.{macsec_accepts}
use Rattle.ether_lax.proofs.StepLemmas.{header_here}

module _ (bytes : List ℕ) (accepted : refusal macsec_slice_form bytes ≡ None) where
  pub accepted_whole : refusal (packet_grammar.form_of kind.Macsec) (slice_range bytes 0 (length bytes)) ≡ None
  accepted_whole = rw (all_bytes bytes) (macsec_accepts bytes accepted)

  header_is : take (header_len macsec_slice_form bytes) bytes
      ≡ header_at bytes (place_of packet_grammar kind.Macsec (slice_range bytes 0 (length bytes)) 0 (length bytes))
  header_is =
      let here = header_here bytes kind.Macsec 0 (length bytes) (omega arith) (omega arith) accepted_whole in
      let same : header packet_grammar kind.Macsec (slice_range bytes 0 (length bytes)) ≡ take (header_len macsec_slice_form bytes) bytes
      = ap (header packet_grammar kind.Macsec) (all_bytes bytes) in
      sym same ∙ here

  -- what a reader found, by the place
  pub part_of_whole : (place : Place) (tag : List ℕ) (incomplete : Bool) (source : LenSource) (payload : List ℕ)
      → place ≡ place_of packet_grammar kind.Macsec (slice_range bytes 0 (length bytes)) 0 (length bytes)
      → tag ≡ take (header_len macsec_slice_form bytes) bytes → source ≡ source_at bytes place → incomplete ≡ is_incomplete bytes place
      → payload ≡ slice_range bytes place.body place.end → macsec_part tag incomplete source payload ≡ macsec_of bytes
  part_of_whole place tag incomplete source payload is tag_is source_is incomplete_is payload_is =
      let whole : place_of packet_grammar kind.Macsec (slice_range bytes 0 (length bytes)) 0 (length bytes) ≡ place_of packet_grammar kind.Macsec bytes 0 (length bytes)
      = ap (λ (all : List ℕ). place_of packet_grammar kind.Macsec all 0 (length bytes)) (all_bytes bytes) in
      let at_place : place ≡ place_of packet_grammar kind.Macsec bytes 0 (length bytes) = is ∙ whole in
      let tag_at : tag ≡ header_at bytes (place_of packet_grammar kind.Macsec bytes 0 (length bytes)) = tag_is ∙ header_is ∙ ap (header_at bytes) whole in
      rw (tag_at, source_is, incomplete_is, payload_is, at_place) refl
