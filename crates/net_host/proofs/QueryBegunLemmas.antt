-- What a client answers that starts a query is what the query's event leads to.
use Rattle.std.proofs.Common.{◌≡◌, ◌⊎◌, inl, inr, ⊎_elim, ℕ, ◌<◌, ◌&&◌, true, false, cond, eqb, List, length, map, set, Option, Some, None, is_some, Ok, Err, refl, sym, ◌∙◌, ap, arith}
use Rattle.std.proofs.lemmas.Bool.{eq-eqb, ne_eqb}
use Rattle.std.proofs.lemmas.List.{length-map}
use Rattle.net_wire.specs.declared.address.IpAddress.{IpAddress}
use Rattle.net_wire.specs.declared.dns.dns_type.DnsType.{DnsType}
use Rattle.dns_client.specs.declared.error.StartQueryError.{StartQueryError}
use Rattle.dns_client.specs.declared.error.StartQueryError.TheVariants.{NoFreeSlot}
use Rattle.dns_client.specs.declared.query.QueryHandle.{QueryHandle}
use Rattle.dns_client.specs.Client.{Client, Started, text_refusal, refusal_by_place, place_fault}
use Rattle.dns_client.specs.Query.{new_query}
use Rattle.dns_client.specs.Slots.{first_free, with_new}
use Rattle.dns_client.specs.TextName.{labels_of_text, name_fault}
use Rattle.host_model.specs.declared.words.EventWords.{EventWords}
use Rattle.host_model.specs.QuerySlots.{Query, Slot}
use Rattle.host_model.specs.QueryStart.{Begun, placed, started, started_by, request_for, query_for}
use Rattle.net_host.specs.QueryPolling.{AreLent}
use Rattle.net_host.specs.QueryStanding.{StandAs, standing_in, number_in}
use Rattle.net_host.proofs.QueryStartLemmas.{IsFull, IsPut, put_case}

module _ (servers : List IpAddress) (slots : List Slot) (numbers : List ℕ) (old new : Client) (number : ℕ)
    (type_ : DnsType) (name : List ℕ) (words : EventWords) (before : StandAs servers slots old numbers)
    (lent : AreLent old) where
  abbrev pub query : Query
  query = query_for number type_ name words

  abbrev pub fault : Option StartQueryError
  fault = name_fault 0 (labels_of_text name)

  -- the slots refuse where none is free, and only there
  full_refuses : IsFull query slots → place_fault old ≡ Some NoFreeSlot
  full_refuses full =
      ap (λ b. cond (b && eqb (first_free old.slots) (length old.slots)) (Some NoFreeSlot) None) lent
      ∙ ap (λ list. cond (eqb (first_free list) (length list)) (Some NoFreeSlot) None) before.slots_are
      ∙ ap (λ b. cond b (Some NoFreeSlot) None) (eq-eqb _ _ full.full)

  put_takes : IsPut query slots → place_fault old ≡ None
  put_takes put =
      let apart : eqb (first_free (map standing_in slots)) (length (map standing_in slots)) ≡ false =
      ne_eqb _ _ (omega (arith, put.inside, length-map slots standing_in, length-map slots number_in)) in
      ap (λ b. cond (b && eqb (first_free old.slots) (length old.slots)) (Some NoFreeSlot) None) lent
      ∙ ap (λ list. cond (eqb (first_free list) (length list)) (Some NoFreeSlot) None) before.slots_are
      ∙ ap (λ b. cond b (Some NoFreeSlot) None) apart

  -- what the event leads to
  abbrev pub begun : Begun
  begun = started number type_ name words slots

  -- A query that was started has no refusal.
  pub record IsStarted (handle : QueryHandle) : Type 0 where
    pub stand : StandAs servers begun.slots new (set numbers handle.0 number)
    pub refused : None ≡ begun.refused
    pub inside : handle.0 < length numbers

  started_put : (handle : QueryHandle) → fault ≡ None → IsPut query slots → handle.0 ≡ first_free old.slots
      → new ≡ record old { slots = with_new (new_query (request_for type_ name words)) old.slots }
      → IsStarted handle
  started_put handle none put at is =
      let begun_is : begun ≡ record { slots = put.filled; refused = None } =
      ap (λ found. started_by found query slots) none ∙ ap (placed slots) put.some in
      let place : handle.0 ≡ first_free (map standing_in slots) = at ∙ ap first_free before.slots_are in
      record {
        stand = record {
          servers_are = ap (λ client. client.servers) is ∙ before.servers_are;
          slots_are = ap (λ client. client.slots) is
              ∙ ap (with_new (new_query (request_for type_ name words))) before.slots_are
              ∙ sym put.stands ∙ ap (λ b. map standing_in b.slots) (sym begun_is);
          numbers_are = ap (λ list. set list handle.0 number) before.numbers_are
              ∙ ap (λ k. set (map number_in slots) k number) place
              ∙ sym put.numbers ∙ ap (λ b. map number_in b.slots) (sym begun_is);
          no_hop_limit = ap (λ client. client.hop_limit) is ∙ before.no_hop_limit;
        };
        refused = ap (λ b. b.refused) (sym begun_is);
        inside = rw (place, ap length before.numbers_are) put.inside;
      }

  -- A query that was refused is refused by the event.
  pub record IsRefused (error : StartQueryError) : Type 0 where
    pub stand : StandAs servers begun.slots new numbers
    pub refused : Some error ≡ begun.refused

  refused_with : (error : StartQueryError) → begun ≡ record { slots = slots; refused = Some error } → new ≡ old → IsRefused error
  refused_with error begun_is same = record {
    stand = record {
      servers_are = ap (λ client. client.servers) same ∙ before.servers_are;
      slots_are = ap (λ client. client.slots) same ∙ before.slots_are ∙ ap (λ b. map standing_in b.slots) (sym begun_is);
      numbers_are = before.numbers_are ∙ ap (λ b. map number_in b.slots) (sym begun_is);
      no_hop_limit = ap (λ client. client.hop_limit) same ∙ before.no_hop_limit;
    };
    refused = ap (λ b. b.refused) (sym begun_is);
  }

  ok_by : (handle : QueryHandle) (found : Option StartQueryError) → fault ≡ found → IsFull query slots ⊎ IsPut query slots
      → Started (text_refusal old name) (new_query (request_for type_ name words)) (Ok handle) old new → IsStarted handle
  ok_by handle (Some error) is way call =
      let wrong : Ok handle ≡ Err error = call.refuses error (ap (refusal_by_place old) is) in
      let no : ⊥ = cc in absurd no
  ok_by handle None is (inl full) call =
      let wrong : Ok handle ≡ Err NoFreeSlot =
      call.refuses NoFreeSlot (ap (refusal_by_place old) is ∙ full_refuses full) in
      let no : ⊥ = cc in absurd no
  ok_by handle None is (inr put) call = started_put handle is put call.ok.0 call.ok.1

  pub started_ok : (handle : QueryHandle)
      → Started (text_refusal old name) (new_query (request_for type_ name words)) (Ok handle) old new → IsStarted handle
  started_ok handle call = ok_by handle fault refl (put_case query slots) call

  err_by : (error : StartQueryError) (found : Option StartQueryError) → fault ≡ found → IsFull query slots ⊎ IsPut query slots
      → text_refusal old name ≡ Some error → new ≡ old → IsRefused error
  err_by error (Some other) is way refuses same =
      let both : Some other ≡ Some error = sym (ap (refusal_by_place old) is) ∙ refuses in
      refused_with error (ap (λ found. started_by found query slots) is ∙ ap (λ found. record { slots = slots; refused = found }) both) same
  err_by error None is (inl full) refuses same =
      let both : Some NoFreeSlot ≡ Some error = sym (ap (refusal_by_place old) is ∙ full_refuses full) ∙ refuses in
      refused_with error
      (ap (λ found. started_by found query slots) is ∙ ap (placed slots) full.none ∙ ap (λ found. record { slots = slots; refused = found }) both) same
  err_by error None is (inr put) refuses same =
      let wrong : None ≡ Some error = sym (ap (refusal_by_place old) is ∙ put_takes put) ∙ refuses in
      let no : ⊥ = cc in absurd no

  pub started_err : (error : StartQueryError)
      → Started (text_refusal old name) (new_query (request_for type_ name words)) (Err error) old new → IsRefused error
  started_err error call =
      err_by error fault refl (put_case query slots)
      (⊎_elim (λ refuses. refuses)
      (λ grew. let wrong : true ≡ false = sym lent ∙ ap is_some grew.1.owned in let no : ⊥ = cc in absurd no) call.cause)
      call.err
