use Rattle.std.proofs.Common.{refl, arith}
use Rattle.managed.specs.Elements.{elements_in}
use Rattle.managed.proofs.SlotCallLemmas.{full}
use Rattle.managed.proofs.slot_links.SlotLinks.take.Goals as goal

-- no place is left
pub returns-clause-refuses : goal.returns-clause-refuses
returns-clause-refuses c =
    let s = c.self.inside in
    (λ none. rw (← c.self.view_is) (full (elements_in s.slots) s.next_place s.free_count s.first_free s.next_generation s.capacity c.self.invariant (omega arith) (omega arith)), λ all. refl)
