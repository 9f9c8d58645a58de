use Rattle.std.proofs.Common.{sym, ap, ◌∙◌}
use Rattle.std.specs.Option.{option_map}
use Rattle.managed.specs.SortedMap.{pairs}
use Rattle.managed.specs.SlotMap.{elements_of}
use Rattle.lease_server.specs.State.{held_of}
use Rattle.lease_server.proofs.HolderLemmas.{finds_none, finds_some, lies_in}
use Rattle.lease_server.proofs.server.Server.find.Goals as goal

pub returns-in_default : goal.returns-in_default
returns-in_default c = rw (← c.self.view_is) (finds_none (pairs c.self.inside.clients) (elements_of c.self.inside.leases) c.args.client
    (sym c.get.ensures ∙ sym c.copied.ensures ∙ c.in_default.is))

pub returns : goal.returns
returns c =
    let found = sym c.get.ensures ∙ sym c.copied.ensures ∙ c.in-Some.is in
    rw (← c.self.view_is) (ap (option_map held_of) (c.copied-2.ensures ∙ lies_in c.self.inside c.self.invariant c.args.client c.in-Some.key c.get-2.result found c.get-2.ensures.found c.get-2.ensures.value)
    ∙ sym (finds_some (pairs c.self.inside.clients) (elements_of c.self.inside.leases) c.args.client c.in-Some.key found))
