use Rattle.std.proofs.Common.{rules, refl}
use Rattle.managed.proofs.LoanLemmas.{shown_at}
use Rattle.managed.proofs.slot_map.SlotMap.owned_item.Goals as goal

pub returns-in-Some : goal.returns-in-Some
returns-in-Some g c =
    let items = c.in-Some.items in let got = rw c.in-Some.is at c.get_mut.ensures in
    rw c.in-Some.is (refl, record { written = tt; found = search rules; value = λ _. shown_at items.items items.len c.args.place c.get_mut.result items.ok.0 got.variant got.value })
