use Rattle.std.proofs.Common.{◌<◌, ◌-◌, suc, ◌≡◌, arith}
use Rattle.managed.specs.Elements.{elements_in}
use Rattle.managed.proofs.SlotCallLemmas.{taken, use_taken, not_full, first_below}
use Rattle.managed.proofs.SlotReadLemmas.{length_freed}
use Rattle.managed.proofs.slot_links.SlotLinks.take_free.Goals as goal

pub link_of-next-requires : goal.link_of-next-requires
link_of-next-requires c =
    let s = c.self.inside in
    let some : 0 < s.free_count = omega (arith, rw (← c.self.view_is) at c.requires, length_freed (elements_in s.slots) s.free_count s.first_free) in
    first_below (elements_in s.slots) s.next_place s.free_count s.first_free s.next_generation s.capacity c.self.invariant some

pub invariant_of-self : goal.invariant_of-self
invariant_of-self c =
    let s = c.self.inside in
    let some : suc (s.free_count - 1) ≡ s.free_count = omega (arith, rw (← c.self.view_is) at c.requires, length_freed (elements_in s.slots) s.free_count s.first_free) in
    rw (c.set.ensures, c.used_slot.ensures, c.link_of-next.ensures, c.generation_after-self-inside.ensures) (taken (elements_in s.slots) s.next_place s.free_count s.first_free s.next_generation s.capacity c.self.invariant (s.free_count - 1) some)

pub returns-clause-written : goal.returns-clause-written
returns-clause-written c =
    let s = c.self.inside in
    let some : suc (s.free_count - 1) ≡ s.free_count = omega (arith, rw (← c.self.view_is) at c.requires, length_freed (elements_in s.slots) s.free_count s.first_free) in
    rw (← c.self.view_is, c.set.ensures, c.used_slot.ensures, c.link_of-next.ensures, c.generation_after-self-inside.ensures) (use_taken (elements_in s.slots) s.next_place s.free_count s.first_free s.next_generation s.capacity c.self.invariant (s.free_count - 1) some)

pub returns-clause-room : goal.returns-clause-room
returns-clause-room c =
    let s = c.self.inside in
    let some : suc (s.free_count - 1) ≡ s.free_count = omega (arith, rw (← c.self.view_is) at c.requires, length_freed (elements_in s.slots) s.free_count s.first_free) in
    rw (← c.self.view_is) (not_full (elements_in s.slots) s.next_place s.free_count s.first_free s.next_generation s.capacity c.self.invariant (s.free_count - 1) some)
