use Rattle.std.proofs.Common.{◌<◌, add-one, arith}
use Rattle.managed.specs.Elements.{elements_in}
use Rattle.managed.proofs.SlotStepLemmas.{taken_new}
use Rattle.managed.proofs.SlotCallLemmas.{use_taken_new, new_not_full}
use Rattle.managed.proofs.SlotReadLemmas.{length_gens}
use Rattle.managed.proofs.slot_links.SlotLinks.take_new.Goals as goal

pub invariant_of-self : goal.invariant_of-self
invariant_of-self c =
    let s = c.self.inside in
    let room : s.next_place < s.capacity = omega (arith, rw (← c.self.view_is) at c.requires.room, length_gens (elements_in s.slots) s.next_place (omega (arith, c.self.invariant.fits, c.self.invariant.next_fits))) in
    rw (c.set.ensures, c.used_slot.ensures, c.generation_after-self-inside.ensures, add-one) (taken_new (elements_in s.slots) s.next_place s.free_count s.first_free s.next_generation s.capacity c.self.invariant room)

pub returns-clause-written : goal.returns-clause-written
returns-clause-written c =
    let s = c.self.inside in
    let room : s.next_place < s.capacity = omega (arith, rw (← c.self.view_is) at c.requires.room, length_gens (elements_in s.slots) s.next_place (omega (arith, c.self.invariant.fits, c.self.invariant.next_fits))) in
    rw (← c.self.view_is, c.set.ensures, c.used_slot.ensures, c.generation_after-self-inside.ensures, add-one) (use_taken_new (elements_in s.slots) s.next_place s.free_count s.first_free s.next_generation s.capacity c.self.invariant room (rw (← c.self.view_is) at c.requires.none_free))

pub returns-clause-room : goal.returns-clause-room
returns-clause-room c =
    let s = c.self.inside in
    let room : s.next_place < s.capacity = omega (arith, rw (← c.self.view_is) at c.requires.room, length_gens (elements_in s.slots) s.next_place (omega (arith, c.self.invariant.fits, c.self.invariant.next_fits))) in
    rw (← c.self.view_is) (new_not_full (elements_in s.slots) s.next_place s.free_count s.first_free s.next_generation s.capacity c.self.invariant room)
