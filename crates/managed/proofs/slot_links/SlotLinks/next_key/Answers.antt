use Rattle.std.proofs.Common.{◌≤◌, arith}
use Rattle.managed.specs.Elements.{elements_in}
use Rattle.managed.specs.SlotLinks.{use_of}
use Rattle.managed.specs.SlotTable.{IsFullTable}
use Rattle.managed.proofs.SlotCallLemmas.{full}
use Rattle.managed.proofs.slot_links.SlotLinks.next_key.Goals as goal

-- no place is left
pub returns-clause-room : goal.returns-clause-room
returns-clause-room c =
    let s = c.self.inside in
    let at_fields : s.capacity ≤ s.next_place → IsFullTable (use_of (elements_in s.slots) s.next_place s.free_count s.first_free s.next_generation s.capacity) = full (elements_in s.slots) s.next_place s.free_count s.first_free s.next_generation s.capacity c.self.invariant (omega arith) in
    rw (← c.self.view_is) at_fields
