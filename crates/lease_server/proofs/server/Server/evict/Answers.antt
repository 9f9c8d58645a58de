use Rattle.std.proofs.Common.{sym, ◌∙◌}
use Rattle.managed.specs.SortedMap.{pairs}
use Rattle.managed.specs.SlotMap.{elements_of, places_of}
use Rattle.lease_server.specs.Values.{values_of}
use Rattle.lease_server.proofs.HolderLemmas.{sorted_keys}
use Rattle.lease_server.proofs.EvictLemmas.{evicts_in, evicted_in, not_there}
use Rattle.lease_server.proofs.server.Server.evict.Goals as goal

pub returns-in_default-clause-holds : goal.returns-in_default-clause-holds
returns-in_default-clause-holds c = λ other. rw (← c.self.view_is) (not_there (pairs c.self.inside.clients) (elements_of c.self.inside.leases) c.args.client
    (sym c.get.ensures ∙ sym c.copied.ensures ∙ c.in_default.is) other)

pub invariant_of-self : goal.invariant_of-self
invariant_of-self c =
    let found = sym c.get.ensures ∙ sym c.copied.ensures ∙ c.in-Some.is in
    let inside = c.self.inside in
    let serving = c.self.invariant in
    record {
      checked = serving.checked;
      sorted = c.remove.ensures.sorted;
      places = c.remove.ensures.within.1 ∙ serving.places;
      holders = evicts_in (values_of inside.values) (pairs inside.clients) (elements_of inside.leases) (places_of inside.leases) c.args.client c.in-Some.key
          (pairs c.remove.new.self) (elements_of c.discard.new.self) (places_of c.discard.new.self)
          (sorted_keys inside.clients inside.values.count serving.sorted serving.places)
          c.remove.ensures.rest c.discard.ensures.others
          (c.discard.ensures.places (c.discard.ensures.found.1 (serving.holders.live c.args.client c.in-Some.key found))) serving.holders found;
    }

pub returns-clause-holds : goal.returns-clause-holds
returns-clause-holds c = λ other.
    let inside = c.self.inside in
    rw (← c.self.view_is) (evicted_in (values_of inside.values) (pairs inside.clients) (elements_of inside.leases) (places_of inside.leases) c.args.client c.in-Some.key
    (pairs c.remove.new.self) (elements_of c.discard.new.self) (places_of c.discard.new.self)
    (sorted_keys inside.clients inside.values.count c.self.invariant.sorted c.self.invariant.places)
    c.remove.ensures.rest c.discard.ensures.others other)
