use Rattle.std.proofs.Common.{◌≡◌, get_or, map, take, Some, None, add-one, arith}
use Rattle.managed.specs.Elements.{elements_in}
use Rattle.managed.specs.SlotLinks.{generation_of}
use Rattle.managed.proofs.SlotCallLemmas.{freed_live, use_freed_live, live_room}
use Rattle.managed.proofs.slot_links.SlotLinks.free.Goals as goal

pub overflow_add-self : goal.overflow_add-self
overflow_add-self c =
    let s = c.self.inside in
    let live : get_or (map generation_of (take s.next_place (elements_in s.slots))) c.args.key.place None ≡ Some c.args.key.generation = rw (← c.self.view_is) at c.requires in
    let room = live_room (elements_in s.slots) s.next_place s.free_count s.first_free s.next_generation s.capacity c.self.invariant _ _ live in
    omega (arith, room.1, room.2)

pub invariant_of-self : goal.invariant_of-self
invariant_of-self c =
    let s = c.self.inside in
    let live : get_or (map generation_of (take s.next_place (elements_in s.slots))) c.args.key.place None ≡ Some c.args.key.generation = rw (← c.self.view_is) at c.requires in
    rw (c.set.ensures, c.free_slot.ensures, add-one) (freed_live (elements_in s.slots) s.next_place s.free_count s.first_free s.next_generation s.capacity c.self.invariant _ _ live)

pub returns : goal.returns
returns c =
    let s = c.self.inside in
    let live : get_or (map generation_of (take s.next_place (elements_in s.slots))) c.args.key.place None ≡ Some c.args.key.generation = rw (← c.self.view_is) at c.requires in
    rw (← c.self.view_is, c.set.ensures, c.free_slot.ensures, add-one) (use_freed_live (elements_in s.slots) s.next_place s.free_count s.first_free s.next_generation s.capacity c.self.invariant _ _ live)
