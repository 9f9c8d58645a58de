use Rattle.std.proofs.Common.{◌≡◌, ap, ◌∙◌, Some, arith, length, min}
use Rattle.managed.specs.SortedMap.{filled}
use Rattle.managed.specs.SlotMap.{elements_of, places_of}
use Rattle.managed.specs.SlotTable.{unused}
use Rattle.lease_server.specs.Values.{values_of}
use Rattle.lease_server.proofs.HolderLemmas.{vacant_pairs, no_holders, begins, sorted_vacant}
use Rattle.lease_server.proofs.server.Server.new.Goals as goal

pub invariant_of-result : goal.invariant_of-result
invariant_of-result c =
    let size : min (length c.args.leases.now) (length c.args.slots.now) ≡ c.args.values.count = omega arith in
    record {
      checked = c.requires.checked;
      sorted = sorted_vacant c.args.clients.now c.requires.empty;
      places = ap Some c.requires.clients;
      holders = no_holders (values_of c.args.values) (filled c.args.clients.now) (elements_of c.new.result) (places_of c.new.result)
          (vacant_pairs c.args.clients.now c.requires.empty) (c.new.ensures.places ∙ ap unused size)
          (omega (arith, ap length c.new.ensures.elements));
    }

pub returns : goal.returns
returns c = begins (values_of c.args.values) (filled c.args.clients.now) (elements_of c.new.result) (vacant_pairs c.args.clients.now c.requires.empty)
