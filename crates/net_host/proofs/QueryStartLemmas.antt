-- A query that is started, or refused, stands as the query of its event.
use Rattle.std.proofs.Common.{◌≡◌, ◌⊎◌, inl, inr, suc, ◌<◌, List, [], ◌∷◌, length, map, set, Some, None, refl, sym, ◌∙◌, ap, arith}
use Rattle.std.specs.Option.{option_map}
use Rattle.dns_client.specs.declared.query.DnsQuery.{DnsQuery}
use Rattle.dns_client.specs.Slots.{first_free, with_new}
use Rattle.host_model.specs.QuerySlots.{Query, Slot, Free, Live, Over}
use Rattle.host_model.specs.QueryStart.{put_query}
use Rattle.net_host.specs.QueryStanding.{standing_in, number_in, waiting_as}

-- no slot is free
pub record IsFull (query : Query) (slots : List Slot) : Type 0 where
  pub none : put_query query slots ≡ None
  pub full : first_free (map standing_in slots) ≡ length (map standing_in slots)

-- the query is in the lowest free slot, and its number in that place
pub record IsPut (query : Query) (slots : List Slot) : Type 0 where
  pub filled : List Slot
  pub some : put_query query slots ≡ Some filled
  pub stands : map standing_in filled ≡ with_new (waiting_as query) (map standing_in slots)
  pub numbers : map number_in filled ≡ set (map number_in slots) (first_free (map standing_in slots)) query.number
  pub inside : first_free (map standing_in slots) < length (map number_in slots)

-- one slot more in front, with a query in it
full_behind : (query : Query) (slot : Slot) (query_there : DnsQuery) (slots : List Slot)
    → put_query query (slot ∷ slots) ≡ option_map (λ rest. slot ∷ rest) (put_query query slots)
    → standing_in slot ≡ Some query_there → IsFull query slots → IsFull query (slot ∷ slots)
full_behind query slot query_there slots puts there full = record {
  none = puts ∙ ap (option_map (λ rest. slot ∷ rest)) full.none;
  full = ap (λ one. first_free (one ∷ map standing_in slots)) there ∙ ap suc full.full;
}

put_behind : (query : Query) (slot : Slot) (query_there : DnsQuery) (slots : List Slot)
    → put_query query (slot ∷ slots) ≡ option_map (λ rest. slot ∷ rest) (put_query query slots)
    → standing_in slot ≡ Some query_there → IsPut query slots → IsPut query (slot ∷ slots)
put_behind query slot query_there slots puts there put =
    let first_is : first_free (standing_in slot ∷ map standing_in slots) ≡ suc (first_free (map standing_in slots)) =
    ap (λ one. first_free (one ∷ map standing_in slots)) there in
    record {
      filled = slot ∷ put.filled;
      some = puts ∙ ap (option_map (λ rest. slot ∷ rest)) put.some;
      stands = ap (λ rest. standing_in slot ∷ rest) put.stands
          ∙ ap (λ one. one ∷ with_new (waiting_as query) (map standing_in slots)) there
          ∙ sym (ap (λ one. with_new (waiting_as query) (one ∷ map standing_in slots)) there);
      numbers = ap (λ rest. number_in slot ∷ rest) put.numbers
          ∙ sym (ap (λ at. set (number_in slot ∷ map number_in slots) at query.number) first_is);
      inside = rw first_is (omega (arith, put.inside));
    }

behind : (query : Query) (slot : Slot) (query_there : DnsQuery) (slots : List Slot)
    → put_query query (slot ∷ slots) ≡ option_map (λ rest. slot ∷ rest) (put_query query slots)
    → standing_in slot ≡ Some query_there → IsFull query slots ⊎ IsPut query slots
    → IsFull query (slot ∷ slots) ⊎ IsPut query (slot ∷ slots)
behind query slot query_there slots puts there (inl full) = inl (full_behind query slot query_there slots puts there full)
behind query slot query_there slots puts there (inr put) = inr (put_behind query slot query_there slots puts there put)

pub put_case : (query : Query) (slots : List Slot) → IsFull query slots ⊎ IsPut query slots
put_case query [] = inl (record { none = refl; full = refl })
put_case query (Free ∷ slots) = inr (record {
  filled = Live query ∷ slots;
  some = refl;
  stands = refl;
  numbers = refl;
  inside = omega arith;
})
put_case query (Live other ∷ slots) = behind query (Live other) _ slots refl refl (put_case query slots)
put_case query (Over number [] ∷ slots) = behind query (Over number []) _ slots refl refl (put_case query slots)
put_case query (Over number (address ∷ more) ∷ slots) =
    behind query (Over number (address ∷ more)) _ slots refl refl (put_case query slots)
