-- What both dissectors say of a frame, read off its one layout.
use Rattle.std.proofs.Common.{◌≡◌, ℕ, ◌<◌, ◌≤◌, Bool, true, false, List, length, Option, Some, None, ap₂, subst, ◌∙◌, refl, arith}
use Rattle.std.specs.Prelude.{◌↔◌, IsTrue, if◌then◌else◌, nat_lt}
use Rattle.std.proofs.lemmas.Bool.Decides.{nat_tests}
use Rattle.ether_link.specs.Form.{or_else, len_error, refusal, no_map}
use Rattle.ether_link.specs.Ethernet2.{ethernet2_form}
use Rattle.ether_link.specs.declared.err.layers.Layer.TheVariants.{Ethernet2Header}
use Rattle.ether_link.specs.declared.err.length.LenError.{LenError}
use Rattle.ether_link.specs.declared.layout.PartKind.TheVariants.{Ethernet2}
use Rattle.ether_link.specs.declared.layout.Place.{Place}
use Rattle.ether_link.specs.declared.layout.Stop.{Stop}
use Rattle.ether_link.specs.declared.len_source.LenSource.TheVariants.{Slice}
use Rattle.ether_link.proofs.LayoutLemmas.{one}
use Rattle.ether_ip.specs.PacketGrammar.{packet_grammar}
use Rattle.ether_ip.specs.declared.err.packet.SliceError.{SliceError}
use Rattle.ether_lax.specs.Agreement.{Agree, FindsPlaces}
use Rattle.ether_lax.specs.Headers.{HeaderParts, headers_in}
use Rattle.ether_lax.specs.Sliced.{SlicedParts, HoldsLayout, sliced_in}
use Rattle.ether_lax.specs.Steps.{begins_with}
use Rattle.ether_lax.specs.declared.sliced_packet.LaxSlicedPacket.{LaxSlicedPacket}
use Rattle.ether_lax.proofs.AgreeLemmas.{agree_at}
use Rattle.capture_explain.specs.Comparing.{AgreesWithHeaders, AgreesInFull, AreCompared}
use Rattle.capture_explain.specs.Dissected.{carried_by_frame, HasLayers, sliced_at, headers_at, IsDissection}
use Rattle.capture_explain.specs.declared.layers.Layers.{Layers}

-- a frame is refused where it has fewer than 14 bytes, and only there
refused_by : {E : Type 0} (n : ℕ) (b : Bool) (x why : E) → nat_lt n 14 ≡ b
    → or_else (if b then Some x else None) (or_else None (or_else (if b then Some x else None) (or_else None None))) ≡ Some why
    → n < 14
refused_by n true x why is refused = grind (arith, nat_tests, is)
refused_by n false x why is refused = absurd (cc)

accepted_by : {E : Type 0} (n : ℕ) (b : Bool) (x : E) → nat_lt n 14 ≡ b
    → or_else (if b then Some x else None) (or_else None (or_else (if b then Some x else None) (or_else None None))) ≡ None
    → 14 ≤ n
accepted_by n true x is accepted = absurd (cc)
accepted_by n false x is accepted = grind (arith, nat_tests, is)

pub refused_short : (bytes : List ℕ) (why : LenError) → refusal (ethernet2_form no_map) bytes ≡ Some why → length bytes < 14
refused_short bytes why refused =
    refused_by (length bytes) (nat_lt (length bytes) 14) (len_error Ethernet2Header Slice (length bytes) 14) why refl refused

pub accepted_long : (bytes : List ℕ) → refusal (ethernet2_form no_map) bytes ≡ None → 14 ≤ length bytes
accepted_long bytes accepted =
    accepted_by (length bytes) (nat_lt (length bytes) 14) (len_error Ethernet2Header Slice (length bytes) 14) refl accepted

module _ (frame : List ℕ) (layers : Layers) (agree : Bool) (has : HasLayers frame layers) where
  same_sliced : (packet : LaxSlicedPacket) (holds : HoldsLayout frame (begins_with Ethernet2) packet) → sliced_in packet ≡ sliced_at frame has.places has.stop
  same_sliced packet holds =
      let same = one packet_grammar frame (begins_with Ethernet2) 0 (length frame) holds.places has.places holds.stop has.stop
      holds.layout has.layout in
      holds.holds ∙ ap₂ (λ (ps : List Place) (s : Option (Stop SliceError)). sliced_at frame ps s) same.0 same.1

  same_headers : (packet : LaxSlicedPacket) (are : AgreesWithHeaders frame packet agree) → headers_in are.headers ≡ headers_at frame has.places has.stop
  same_headers packet are =
      let same = one packet_grammar frame (begins_with Ethernet2) 0 (length frame) are.holds_headers.places has.places are.holds_headers.stop has.stop
      are.holds_headers.layout has.layout in
      are.holds_headers.holds ∙ ap₂ (λ (ps : List Place) (s : Option (Stop SliceError)). headers_at frame ps s) same.0 same.1

  agree_by : AgreesInFull frame agree → IsTrue agree ↔ Agree (sliced_at frame has.places has.stop) (headers_at frame has.places has.stop)
  agree_by full =
      subst (λ (p : SlicedParts). IsTrue agree ↔ Agree p (headers_at frame has.places has.stop)) (same_sliced full.packet full.holds)
      (subst (λ (h : HeaderParts). IsTrue agree ↔ Agree (sliced_in full.packet) h) (same_headers full.packet full.by_headers) full.by_headers.agree_is)

  agree_as : AreCompared frame layers.free agree → 14 ≤ length frame → (b : Bool) → layers.free ≡ b
      → IsTrue agree ↔ Agree (sliced_at frame has.places has.stop) (headers_at frame has.places has.stop)
  agree_as are long true is = (
    λ now. agree_at frame (begins_with Ethernet2) (carried_by_frame frame) has.places has.stop has.layout (has.free_are is),
    λ now. are.in_places is,
  )
  agree_as are long false is = agree_by (are.long is long)

  free_as : AreCompared frame layers.free agree → FindsPlaces frame (begins_with Ethernet2) → (b : Bool) → layers.free ≡ b
      → (c : Bool) → nat_lt (length frame) 14 ≡ c → agree ≡ true
  free_as are free true is c short = are.in_places is
  free_as are free false is true short = are.short (grind (arith, nat_tests, short))
  free_as are free false is false short = (are.long is (grind (arith, nat_tests, short))).by_headers.agrees free

  pub dissected : AreCompared frame layers.free agree
      → IsDissection frame (record { parts = layers.parts; stop = layers.stop; agree = agree; ah = layers.ah; esp = layers.esp })
  dissected are = record {
    places = has.places;
    stop = has.stop;
    layout = has.layout;
    parts_are = has.parts_are;
    stop_is = has.stop_is;
    agree_is = (are.short, λ long. agree_as are long layers.free refl);
    agrees = λ free. free_as are free layers.free refl (nat_lt (length frame) 14) refl;
    ah_are = has.ah_are;
    esp_is = has.esp_is;
  }
