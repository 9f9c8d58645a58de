-- Where no query is decided, no slot changes.
use Rattle.std.proofs.Common.{◌≡◌, ℕ, Bool, true, false, cond, ◌&&◌, ◌||◌, eqb, leb, List, [], ◌∷◌, map, Option, Some, None, is_some, refl, ◌∙◌, ap, length}
use Rattle.std.proofs.lemmas.Bool.{cond-true, cond-false}
use Rattle.net_wire.specs.declared.address.IpAddress.{IpAddress}
use Rattle.net_wire.specs.DnsMessage.{rcode_of}
use Rattle.dns_client.specs.declared.query.DnsQuery.{DnsQuery}
use Rattle.dns_client.specs.declared.response.Arrived.{Arrived}
use Rattle.dns_client.specs.Response.{is_response, reaches, answer_in, settled, decided, failed, failed_if, first_decided, heard, after_response, first_reached, has_answer, decides}
use Rattle.dns_client.specs.Slots.{Slots}

module _ (arrived : Arrived) (message : List ℕ) where
  fails-slot : (slot : Option DnsQuery) (slots : Slots) (b : Bool)
      → (is_some (first_reached arrived slots) ≡ false → map (failed_if arrived) slots ≡ slots) → reaches arrived slot ≡ b
      → is_some (cond b slot (first_reached arrived slots)) ≡ false → map (failed_if arrived) (slot ∷ slots) ≡ slot ∷ slots
  fails-slot None slots true rest is none = let no : ⊥ = cc in absurd no
  fails-slot (Some query) slots true rest is none = let no : ⊥ = cc in absurd no
  fails-slot slot slots false rest is none =
      ap (λ first. first ∷ map (failed_if arrived) slots) (cond-false (reaches arrived slot) failed slot is)
      ∙ ap (λ more. slot ∷ more) (rest none)

  fails-none : (slots : Slots) → is_some (first_reached arrived slots) ≡ false → map (failed_if arrived) slots ≡ slots
  fails-none [] none = refl
  fails-none (slot ∷ slots) none = fails-slot slot slots (reaches arrived slot) (λ more. fails-none slots more) refl none

  settled-none : (answer : Option (List IpAddress)) (slot : Option DnsQuery) → is_some answer ≡ false → settled answer slot ≡ slot
  settled-none None slot none = refl
  settled-none (Some addresses) slot none = let no : ⊥ = cc in absurd no

  decided-none : (slot : Option DnsQuery) → has_answer message slot ≡ false → decided message slot ≡ slot
  decided-none None none = refl
  decided-none (Some query) none = settled-none (answer_in message query.state) (Some query) none

  stays-slot : (slot : Option DnsQuery) (slots : Slots) (b : Bool)
      → (has_answer message (first_reached arrived slots) ≡ false → first_decided arrived message slots ≡ slots) → reaches arrived slot ≡ b
      → has_answer message (cond b slot (first_reached arrived slots)) ≡ false → first_decided arrived message (slot ∷ slots) ≡ slot ∷ slots
  stays-slot slot slots true rest is none =
      cond-true (reaches arrived slot) _ _ is ∙ ap (λ first. first ∷ slots) (decided-none slot none)
  stays-slot slot slots false rest is none =
      cond-false (reaches arrived slot) _ _ is ∙ ap (λ more. slot ∷ more) (rest none)

  stays : (slots : Slots) → has_answer message (first_reached arrived slots) ≡ false → first_decided arrived message slots ≡ slots
  stays [] none = refl
  stays (slot ∷ slots) none = stays-slot slot slots (reaches arrived slot) (λ more. stays slots more) refl none

  no_answer : (slot : Option DnsQuery) → is_some slot ≡ false → has_answer message slot ≡ false
  no_answer None none = refl
  no_answer (Some query) none = let no : ⊥ = cc in absurd no

  hears-none : (slots : Slots) (gone reached answered : Bool) → eqb (rcode_of message) 3 ≡ gone → is_some (first_reached arrived slots) ≡ reached
      → has_answer message (first_reached arrived slots) ≡ answered → (reached && (gone || answered)) ≡ false
      → heard arrived message slots ≡ slots
  hears-none slots true false answered g r a none = cond-true _ _ _ g ∙ fails-none slots r
  hears-none slots false false answered g r a none = cond-false _ _ _ g ∙ stays slots (no_answer (first_reached arrived slots) r)
  hears-none slots true true answered g r a none = let no : ⊥ = cc in absurd no
  hears-none slots false true false g r a none = cond-false _ _ _ g ∙ stays slots a
  hears-none slots false true true g r a none = let no : ⊥ = cc in absurd no

  by_tests : (slots : Slots) (whole standard : Bool) → leb 12 (length message) ≡ whole → is_response message ≡ standard
      → (whole && standard && is_some (first_reached arrived slots) && (eqb (rcode_of message) 3 || has_answer message (first_reached arrived slots))) ≡ false
      → after_response arrived message slots ≡ slots
  by_tests slots false standard w s none = cond-false _ _ _ (ap (λ b. b && is_response message) w)
  by_tests slots true false w s none = cond-false _ _ _ (ap (λ b. b && is_response message) w ∙ s)
  by_tests slots true true w s none =
      cond-true _ _ _ (ap (λ b. b && is_response message) w ∙ s) ∙ hears-none slots _ _ _ refl refl refl none

  pub unchanged : (slots : Slots) → decides arrived message slots ≡ false → after_response arrived message slots ≡ slots
  unchanged slots none = by_tests slots (leb 12 (length message)) (is_response message) refl refl none
