-- What one answer makes of the chain.
use Rattle.std.proofs.Common.{◌≡◌, ◌↔◌, ℕ, Bool, true, false, List, [], ◌∷◌, ◌++◌, map, take, Some, Result, Ok, Err, IsTrue, option_map, refl, sym, ◌∙◌, ap, subst}
use Rattle.std.specs.Bool.{Decides}
use Rattle.std.specs.Cmp.{unsigned_Decides}
use Rattle.std.specs.Prelude.{nat_eq}
use Rattle.std.specs.Cmp.Lexicographic.{pointwise}
use Rattle.std.proofs.lemmas.Slice.Eq.{slice_eq-Decides}
use Rattle.std.proofs.lemmas.Bool.{cond-true, cond-false, eq-eqb}
use Rattle.std.proofs.lemmas.List.{append-nil}
use Rattle.net_wire.specs.declared.address.IpAddress.{IpAddress}
use Rattle.net_wire.specs.declared.error.Malformed.{Malformed}
use Rattle.net_wire.specs.DnsName.{LabelList, name_of}
use Rattle.net_wire.proofs.DnsNameLemmas.{mapped}
use Rattle.dns_client.specs.AnswerChain.{Name, is_same_name, HasAddress, HasAlias, AnswerValue, target_or, next_name, address_in, addresses_for}

names_decided : (one other : Name) → Decides (is_same_name one other) (one ≡ other)
names_decided one other =
    slice_eq-Decides {E = pointwise nat_eq} (λ a b. slice_eq-Decides {E = nat_eq} unsigned_Decides a b (pointwise nat_eq a b) refl)
    one other (is_same_name one other) refl

abbrev read : List ℕ → Result (List ℕ) Malformed
read label = Ok label

-- the labels of a whole name are just these
labels_named : (labels : LabelList) (name : Name) → name_of labels ≡ Some name → labels ≡ map read name
labels_named [] name e =
    let P : Name → Type 0 = λ n. [] ≡ map read n in
    subst P (let same : Some [] ≡ Some name = e in let inner : [] ≡ name = cc in inner) refl
labels_named (Ok label ∷ more) name e =
    let found = mapped (λ (n : Name). label ∷ n) (name_of more) name e in
    ap (λ rest. read label ∷ rest) (labels_named more found.0 found.1) ∙ ap (map read) found.2
labels_named (Err error ∷ more) name e = let no : ⊥ = cc in absurd no

-- labels are the same exactly where their names are
pub same_names : (left right : LabelList) (one other : Name) (r : Bool) → name_of left ≡ Some one → name_of right ≡ Some other
    → (IsTrue r ↔ (left ≡ right)) → is_same_name one other ≡ r
same_names left right one other true named also same =
    let equal : Some one ≡ Some other = sym named ∙ ap name_of (same.0 refl) ∙ also in
    (names_decided one other).1 (let inner : one ≡ other = cc in inner)
same_names left right one other false named also same =
    let cases : (b : Bool) → is_same_name one other ≡ b → is_same_name one other ≡ false =
    λ b. elim b as (λ b. is_same_name one other ≡ b → is_same_name one other ≡ false) [
      | true ↦ λ test. (let equal : left ≡ right = labels_named left one named ∙ ap (map read) ((names_decided one other).0 test) ∙ sym (labels_named right other also) in
          let wrong : false ≡ true = same.1 equal in let no : ⊥ = cc in absurd no)
      | false ↦ λ test. test
    ] in
    cases (is_same_name one other) refl

module _ (number : ℕ) (name : Name) (value : AnswerValue) (all found : List IpAddress) where
  -- an alias that is named as wanted
  pub alias_followed : (labels : LabelList) → found ≡ take 4 all → is_same_name value.owner name ≡ true
      → option_map HasAlias (name_of labels) ≡ Some value.content
      → (name_of labels ≡ Some (next_name name value)) × (found ≡ take 4 (all ++ addresses_for number name value))
  alias_followed labels kept same told =
      let target = mapped HasAlias (name_of labels) value.content told in (
        target.1 ∙ ap Some (sym (cond-true _ _ _ same ∙ ap (target_or name) (sym target.2))),
        kept ∙ ap (take 4) (sym (ap (λ more. all ++ more) (cond-true _ _ _ same ∙ ap (address_in number) (sym target.2)) ∙ append-nil all)),
      )

  -- an address of the asked type that is named as wanted
  pub address_found : (labels : LabelList) (other : ℕ) (address : IpAddress) → name_of labels ≡ Some name
      → found ≡ take 4 (all ++ address ∷ []) → is_same_name value.owner name ≡ true → Some (HasAddress other address) ≡ Some value.content
      → other ≡ number → (name_of labels ≡ Some (next_name name value)) × (found ≡ take 4 (all ++ addresses_for number name value))
  address_found labels other address named kept same told asked =
      let says : HasAddress other address ≡ value.content = cc in (
        named ∙ ap Some (sym (cond-true _ _ _ same ∙ ap (target_or name) (sym says))),
        kept ∙ ap (λ more. take 4 (all ++ more))
            (sym (cond-true _ _ _ same ∙ ap (address_in number) (sym says) ∙ cond-true _ (address ∷ []) [] (eq-eqb other number asked))),
      )

  -- an answer that is not named as wanted
  pub passed_over : (labels : LabelList) → name_of labels ≡ Some name → found ≡ take 4 all → is_same_name value.owner name ≡ false
      → (name_of labels ≡ Some (next_name name value)) × (found ≡ take 4 (all ++ addresses_for number name value))
  passed_over labels named kept other = (
    named ∙ ap Some (sym (cond-false _ _ _ other)),
    kept ∙ ap (take 4) (sym (ap (λ more. all ++ more) (cond-false _ _ _ other) ∙ append-nil all)),
  )
