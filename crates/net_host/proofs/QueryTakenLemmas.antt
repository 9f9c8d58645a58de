-- What the client gives of the query in a slot is what became of it.
use Rattle.std.proofs.Common.{◌≡◌, ℕ, zero, suc, List, [], ◌∷◌, map, get_or, set, Option, Some, None, Result, Ok, Err, refl, sym, ◌∙◌, ap}
use Rattle.std.proofs.lemmas.List.{map-set}
use Rattle.arrayvec.specs.ArrayVec.{ArrayVec}
use Rattle.net_wire.specs.declared.address.IpAddress.{IpAddress}
use Rattle.dns_client.specs.declared.error.GetQueryResultError.{GetQueryResultError}
use Rattle.dns_client.specs.declared.error.GetQueryResultError.TheVariants as get
use Rattle.dns_client.specs.declared.query.DnsQuery.{DnsQuery}
use Rattle.dns_client.specs.declared.query.QueryHandle.{QueryHandle}
use Rattle.dns_client.specs.Query.{query_result}
use Rattle.dns_client.specs.Slots.{Slots, Gives, handle_at, handle_in, freed_in}
use Rattle.host_model.specs.declared.query_line.Outcome.TheVariants.{Answered, Failed}
use Rattle.host_model.specs.QuerySlots.{Slot, Free, Live, Over, freed}
use Rattle.net_host.specs.QueryStanding.{TakesEnded, standing_in, outcome_in, slot_at}

abbrev given : Option DnsQuery → Result (ArrayVec IpAddress) GetQueryResultError
given None = Err get.Pending
given (Some query) = query_result query

abbrev left : Slots → QueryHandle → Option DnsQuery → Slots
left slots handle None = slots
left slots handle (Some query) = freed_in query.state slots handle

at_map : (slots : List Slot) (at : ℕ) → get_or (map standing_in slots) at None ≡ standing_in (slot_at slots at)
at_map [] at = refl
at_map (one ∷ slots) zero = refl
at_map (one ∷ slots) (suc at) = at_map slots at

place_of : (at : ℕ) (slot : Option DnsQuery) (handle : QueryHandle) → handle_in at slot ≡ Some handle → handle.0 ≡ at
place_of at None handle is = let no : ⊥ = cc in absurd no
place_of at (Some query) handle is =
    let same : handle ≡ record { 0 = at } = cc in ap (λ handle. handle.0) same

module _ (slots : List Slot) (at : ℕ) (handle : QueryHandle) (old new : Slots)
    (result : Result (ArrayVec IpAddress) GetQueryResultError) (stand : old ≡ map standing_in slots)
    (there : handle_at old at ≡ Some handle) (gives : Gives old handle result new) where
  place : handle.0 ≡ at
  place = place_of at (get_or old at None) handle there

  slot_is : Some gives.query ≡ standing_in (slot_at slots at)
  slot_is =
      sym gives.there ∙ ap (λ k. get_or old k None) place ∙ ap (λ list. get_or list at None) stand ∙ at_map slots at

  result_is : (x : Slot) → slot_at slots at ≡ x → result ≡ given (standing_in x)
  result_is x is = gives.value ∙ ap given (slot_is ∙ ap standing_in is)

  new_is : (x : Slot) → slot_at slots at ≡ x → new ≡ left old handle (standing_in x)
  new_is x is = gives.freed ∙ ap (left old handle) (slot_is ∙ ap standing_in is)

  -- a slot that is freed
  freed_is : (x : Slot) → slot_at slots at ≡ x → standing_in (freed x) ≡ None → new ≡ set old handle.0 None
      → new ≡ map standing_in (set slots at (freed (slot_at slots at)))
  freed_is x is none written =
      written ∙ ap (λ k. set old k None) place ∙ ap (λ list. set list at None) stand
      ∙ ap (set (map standing_in slots) at) (sym none) ∙ sym (map-set standing_in slots at (freed x))
      ∙ ap (λ y. map standing_in (set slots at (freed y))) (sym is)

  ok_by : (addresses : ArrayVec IpAddress) (x : Slot) → slot_at slots at ≡ x → result ≡ Ok addresses
      → TakesEnded slots at (Some (Answered addresses)) new
  ok_by addresses Free is ok =
      let wrong : Ok addresses ≡ Err get.Pending = sym ok ∙ result_is Free is in let no : ⊥ = cc in absurd no
  ok_by addresses (Live query) is ok =
      let wrong : Ok addresses ≡ Err get.Pending = sym ok ∙ result_is (Live query) is in let no : ⊥ = cc in absurd no
  ok_by addresses (Over number []) is ok =
      let wrong : Ok addresses ≡ Err get.Failed = sym ok ∙ result_is (Over number []) is in let no : ⊥ = cc in absurd no
  ok_by addresses (Over number (address ∷ more)) is ok =
      let both : Ok addresses ≡ Ok (record { items = address ∷ more }) =
      sym ok ∙ result_is (Over number (address ∷ more)) is in
      let same : addresses ≡ record { items = address ∷ more } = cc in
      record {
        outcome_is = ap (λ list. Some (Answered list)) same ∙ sym (ap outcome_in is);
        freed_is = freed_is (Over number (address ∷ more)) is refl (new_is (Over number (address ∷ more)) is);
      }

  failed_by : (x : Slot) → slot_at slots at ≡ x → result ≡ Err get.Failed → TakesEnded slots at (Some Failed) new
  failed_by Free is err =
      let wrong : Err get.Failed ≡ Err get.Pending = sym err ∙ result_is Free is in let no : ⊥ = cc in absurd no
  failed_by (Live query) is err =
      let wrong : Err get.Failed ≡ Err get.Pending = sym err ∙ result_is (Live query) is in let no : ⊥ = cc in absurd no
  failed_by (Over number []) is err = record {
    outcome_is = sym (ap outcome_in is);
    freed_is = freed_is (Over number []) is refl (new_is (Over number []) is);
  }
  failed_by (Over number (address ∷ more)) is err =
      let wrong : Err get.Failed ≡ given (standing_in (Over number (address ∷ more))) =
      sym err ∙ result_is (Over number (address ∷ more)) is in
      let no : ⊥ = cc in absurd no

  pub ok_taken : (addresses : ArrayVec IpAddress) → result ≡ Ok addresses
      → TakesEnded slots at (Some (Answered addresses)) new
  ok_taken addresses ok = ok_by addresses (slot_at slots at) refl ok

  pub failed_taken : result ≡ Err get.Failed → TakesEnded slots at (Some Failed) new
  failed_taken err = failed_by (slot_at slots at) refl err
