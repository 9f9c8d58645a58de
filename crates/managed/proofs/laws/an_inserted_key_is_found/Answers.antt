use Rattle.managed.proofs.LawLemmas.{value-with_pair, value-insert_entry}
use Rattle.managed.proofs.laws.an_inserted_key_is_found.Goals as goal

pub returns : goal.returns
returns g c = record {
  borrowed = λ es key value other. value-with_pair g.met.K.Ord.total key value other es;
  owned = λ es key value other. value-insert_entry g.met.K.Ord.total key value other es;
}
