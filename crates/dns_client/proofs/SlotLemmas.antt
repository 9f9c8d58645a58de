-- Slots one after another.
use Rattle.std.proofs.Common.{◌≡◌, ◌≢◌, ℕ, zero, suc, ◌+◌, ◌<◌, ◌≤◌, [], ◌∷◌, ◌++◌, length, drop, get_or, set, ℤ, Option, Some, None, refl, sym, ◌∙◌, ap, arith}
use Rattle.std.specs.Prelude.{slice_get}
use Rattle.std.proofs.lemmas.List.{drop_more, drop_all}
use Rattle.dns_client.specs.declared.query.DnsQuery.{DnsQuery}
use Rattle.dns_client.specs.Slots.{Slots, first_free, with_new, least_due, least_due_behind, behind, earlier, due_of}

pub first_free_here : (slots : Slots) (at : ℕ) → at < length slots → get_or slots at None ≡ None
    → at + first_free (drop at slots) ≡ first_free slots → at ≡ first_free slots
first_free_here slots at inside free so_far =
    omega (arith, so_far, ap first_free (drop_more slots at None inside ∙ ap (λ slot. slot ∷ drop (at + 1) slots) free))

pub first_free_more : (slots : Slots) (at : ℕ) (query : DnsQuery) → at < length slots → get_or slots at None ≡ Some query
    → at + first_free (drop at slots) ≡ first_free slots → at + 1 + first_free (drop (at + 1) slots) ≡ first_free slots
first_free_more slots at query inside taken so_far =
    omega (arith, so_far, ap first_free (drop_more slots at None inside ∙ ap (λ slot. slot ∷ drop (at + 1) slots) taken))

pub first_free_none : (slots : Slots) (at : ℕ) → length slots ≤ at → at + first_free (drop at slots) ≡ first_free slots → at ≡ first_free slots
first_free_none slots at past so_far = omega (arith, so_far, ap first_free (drop_all at slots past))

pub with_new_at : (query : DnsQuery) (slots : Slots) → first_free slots < length slots
    → set slots (first_free slots) (Some query) ≡ with_new query slots
with_new_at query [] inside = absurd (omega arith)
with_new_at query (None ∷ slots) inside = refl
with_new_at query (Some taken ∷ slots) inside = ap (λ more. Some taken ∷ more) (with_new_at query slots (omega arith))

pub with_new_behind : (query : DnsQuery) (slots : Slots) → length slots ≤ first_free slots → slots ++ Some query ∷ [] ≡ with_new query slots
with_new_behind query [] full = refl
with_new_behind query (None ∷ slots) full = absurd (omega arith)
with_new_behind query (Some taken ∷ slots) full = ap (λ more. Some taken ∷ more) (with_new_behind query slots (omega arith))

pub least_due_more : (slots : Slots) (at : ℕ) (slot : Option DnsQuery) → at < length slots → slot ≡ get_or slots at None
    → earlier (due_of slot) (least_due (drop (at + 1) slots)) ≡ least_due (drop at slots)
least_due_more slots at slot inside is =
    ap (λ one. earlier (due_of one) (least_due (drop (at + 1) slots))) is ∙ sym (ap least_due (drop_more slots at None inside))

pub least_due_behind_more : (last : Option ℤ) (slots : Slots) (at : ℕ) (slot : Option DnsQuery) → at < length slots
    → slot ≡ get_or slots at None
    → earlier (behind last (due_of slot)) (least_due_behind last (drop (at + 1) slots)) ≡ least_due_behind last (drop at slots)
least_due_behind_more last slots at slot inside is =
    ap (λ one. earlier (behind last (due_of one)) (least_due_behind last (drop (at + 1) slots))) is
    ∙ sym (ap (least_due_behind last) (drop_more slots at None inside))

new_there : (query : DnsQuery) (slots : Slots) → get_or (with_new query slots) (first_free slots) None ≡ Some query
new_there query [] = refl
new_there query (None ∷ slots) = refl
new_there query (Some taken ∷ slots) = new_there query slots

others_there : (query : DnsQuery) (slots : Slots) (k : ℕ) → k ≢ first_free slots
    → slice_get (with_new query slots) k ≡ slice_get slots k
others_there query [] zero other = absurd (other refl)
others_there query [] (suc k) other = refl
others_there query (None ∷ slots) zero other = absurd (other refl)
others_there query (None ∷ slots) (suc k) other = refl
others_there query (Some taken ∷ slots) zero other = refl
others_there query (Some taken ∷ slots) (suc k) other = others_there query slots k (λ same. other (ap suc same))

-- the slots once a query was put into the lowest free one
pub new_is_live : (query : DnsQuery) (old new : Slots) (at : ℕ) → at ≡ first_free old → new ≡ with_new query old
    → get_or new at None ≡ Some query
new_is_live query old new at there is = rw (is, there) (new_there query old)

pub others_stay : (query : DnsQuery) (old new : Slots) (at k : ℕ) → at ≡ first_free old → new ≡ with_new query old → k ≢ at
    → slice_get new k ≡ slice_get old k
others_stay query old new at k there is other = rw is (others_there query old k (λ same. other (same ∙ sym there)))
