use Rattle.std.proofs.Common.{Option, Some, None, refl, sym, ◌∙◌}
use Rattle.std.specs.Option.{OnSome}
use Rattle.managed.proofs.FoundLemmas.{found_value, gap_value}
use Rattle.managed.proofs.PlaceLoans.{written_at}
use Rattle.managed.proofs.map.borrowed.get_mut.Goals as goal

-- what is so for each result is so at `Some`
at_some : {A : Type 0} (r : Option A) (P : Type 0) → P → OnSome r P
at_some None P holds = tt
at_some (Some x) P holds = holds

-- the key is at its place
pub returns-in-Ok : goal.returns-in-Ok
returns-in-Ok g c =
    let key = c.args.key.now in
    let places = c.args.places.now in
    let found = c.in-Ok.ensures.found in (
      (refl, (λ w. at_some c.value_of.result _ (written_at key places c.in-Ok.at w found c.requires)), refl),
      record { written = tt; value = c.value_of.ensures.value ∙ sym (found_value (g.K.Ord.cmp key) places c.in-Ok.at found) },
    )

-- the key is not there
pub returns-in-Err : goal.returns-in-Err
returns-in-Err g c = (
  (refl, (λ w. tt), refl),
  record { written = tt; value = sym (gap_value g.met.K.Ord.total c.args.key.now _ _ c.requires.1 c.in-Err.ensures.empty) },
)
