-- The chain of aliases, answer by answer.
use Rattle.std.proofs.Common.{◌≡◌, ℕ, suc, ◌+◌, ◌-◌, ◌<◌, ◌≤◌, List, [], ◌∷◌, ◌++◌, take, reverse, Option, Some, None, IsSome, option_map, refl, sym, ◌∙◌, ap, subst, arith, append_assoc}
use Rattle.std.proofs.lemmas.List.{append-nil, reverse-append, reverse-reverse}
use Rattle.net_wire.specs.declared.address.IpAddress.{IpAddress}
use Rattle.net_wire.specs.DnsName.{LabelList, name_of}
use Rattle.dns_client.specs.AnswerChain.{Name, AnswerValue, answer_at, answers_then, answers_at, next_name, addresses_for, wanted, addresses, chain_answer}

-- so far along the chain: the answers before, the newest first, and what is left of the records
pub record Progress (message : List ℕ) (number : ℕ) (asked : Name) (all : Option (List AnswerValue)) (left : ℕ) (rest : List ℕ)
    (labels : LabelList) (found : List IpAddress) : Type 0 where
  pub before : List AnswerValue
  pub split : all ≡ option_map (λ more. reverse before ++ more) (answers_at message left rest)
  pub wants : name_of labels ≡ Some (wanted asked before)
  pub gathered : found ≡ take 4 (addresses number asked before)

module _ (message : List ℕ) (number : ℕ) (asked : Name) (all : Option (List AnswerValue)) where
  regrouped : (value : AnswerValue) (before : List AnswerValue) (o : Option (List AnswerValue))
      → option_map (λ more. reverse before ++ more) (option_map (λ more. value ∷ more) o) ≡ option_map (λ more. reverse (value ∷ before) ++ more) o
  regrouped value before None = refl
  regrouped value before (Some more) =
      ap Some (sym (append_assoc (reverse before) (value ∷ []) more) ∙ ap (λ front. front ++ more) (sym (reverse-append (value ∷ []) before)))

  pub steps : (left : ℕ) (rest after : List ℕ) (labels labels' : LabelList) (found found' : List IpAddress) (value : AnswerValue)
      → answer_at message rest ≡ Some (value, after)
      → ((name : Name) (all' : List IpAddress) → name_of labels ≡ Some name → found ≡ take 4 all'
      → (name_of labels' ≡ Some (next_name name value)) × (found' ≡ take 4 (all' ++ addresses_for number name value)))
      → Progress message number asked all (suc left) rest labels found → Progress message number asked all left after labels' found'
  unfolding answers_at
  steps left rest after labels labels' found found' value is followed so_far =
      let both = followed (wanted asked so_far.before) (addresses number asked so_far.before) so_far.wants so_far.gathered in
      record {
        before = value ∷ so_far.before;
        split = so_far.split ∙ ap (λ o. option_map (λ more. reverse so_far.before ++ more) (answers_then (answers_at message left) o)) is
            ∙ regrouped value so_far.before (answers_at message left after);
        wants = both.0;
        gathered = both.1;
      }

  -- the same, where the value is known to be there
  pub goes_on : (left : ℕ) (rest after : List ℕ) (labels labels' : LabelList) (found found' : List IpAddress) (told : Option AnswerValue)
      → answer_at message rest ≡ option_map (λ value. (value, after)) told → IsSome told
      → ((name : Name) (value : AnswerValue) (all' : List IpAddress) → name_of labels ≡ Some name → told ≡ Some value → found ≡ take 4 all'
      → (name_of labels' ≡ Some (next_name name value)) × (found' ≡ take 4 (all' ++ addresses_for number name value)))
      → Progress message number asked all (suc left) rest labels found → Progress message number asked all left after labels' found'
  goes_on left rest after labels labels' found found' None is there followed so_far = let no : ⊥ = cc in absurd no
  goes_on left rest after labels labels' found found' (Some value) is there followed so_far =
      steps left rest after labels labels' found found' value is (λ name all' named kept. followed name value all' named refl kept) so_far

  -- the same behind the first i of so many answers
  pub goes_on_behind : (count i : ℕ) (rest after : List ℕ) (labels labels' : LabelList) (found found' : List IpAddress) (told : Option AnswerValue)
      → i < count → answer_at message rest ≡ option_map (λ value. (value, after)) told → IsSome told
      → ((name : Name) (value : AnswerValue) (all' : List IpAddress) → name_of labels ≡ Some name → told ≡ Some value → found ≡ take 4 all'
      → (name_of labels' ≡ Some (next_name name value)) × (found' ≡ take 4 (all' ++ addresses_for number name value)))
      → Progress message number asked all (count - i) rest labels found → Progress message number asked all (count - (i + 1)) after labels' found'
  goes_on_behind count i rest after labels labels' found found' told inside is there followed so_far =
      let P : ℕ → Type 0 = λ n. Progress message number asked all n rest labels found in
      let one_more : count - i ≡ suc (count - (i + 1)) = omega arith in
      goes_on (count - (i + 1)) rest after labels labels' found found' told is there followed (subst P one_more so_far)

  pub stops : (left : ℕ) (rest : List ℕ) (labels : LabelList) (found : List IpAddress) → answer_at message rest ≡ None
      → Progress message number asked all (suc left) rest labels found → all ≡ None
  unfolding answers_at
  stops left rest labels found is so_far =
      so_far.split ∙ ap (λ o. option_map (λ more. reverse so_far.before ++ more) (answers_then (answers_at message left) o)) is

  pub finishes : (rest : List ℕ) (labels : LabelList) (found : List IpAddress) → Progress message number asked all 0 rest labels found
      → Some found ≡ option_map (chain_answer number asked) all
  unfolding answers_at
  finishes rest labels found so_far =
      ap Some (so_far.gathered ∙ ap (λ before. take 4 (addresses number asked before))
      (sym (reverse-reverse so_far.before) ∙ ap reverse (sym (append-nil (reverse so_far.before)))))
      ∙ sym (ap (option_map (chain_answer number asked)) so_far.split)

  pub stops_behind : (count i : ℕ) (rest : List ℕ) (labels : LabelList) (found : List IpAddress) → i < count → answer_at message rest ≡ None
      → Progress message number asked all (count - i) rest labels found → None ≡ option_map (chain_answer number asked) all
  stops_behind count i rest labels found inside is so_far =
      let P : ℕ → Type 0 = λ n. Progress message number asked all n rest labels found in
      let one_more : count - i ≡ suc (count - (i + 1)) = omega arith in
      sym (ap (option_map (chain_answer number asked)) (stops (count - (i + 1)) rest labels found is (subst P one_more so_far)))

  pub finishes_behind : (count i : ℕ) (rest : List ℕ) (labels : LabelList) (found : List IpAddress) → count ≤ i
      → Progress message number asked all (count - i) rest labels found → Some found ≡ option_map (chain_answer number asked) all
  finishes_behind count i rest labels found past so_far =
      let P : ℕ → Type 0 = λ n. Progress message number asked all n rest labels found in
      let none : count - i ≡ 0 = omega arith in
      finishes rest labels found (subst P none so_far)
