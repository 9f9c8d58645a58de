use Rattle.managed.proofs.LiveLemmas.{sound_handed, sound_freed, found_handed, not_handed, kept}
use Rattle.managed.proofs.laws.a_live_key_finds_its_place.Goals as goal

pub returns : goal.returns
returns c = record {
  unused = λ capacity. tt;
  handed = sound_handed;
  freed = sound_freed;
  found = found_handed;
  others = not_handed;
  value = kept;
}
