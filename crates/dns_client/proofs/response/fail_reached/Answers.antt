use Rattle.std.proofs.Common.{◌<◌, length, get_or, arith}
use Rattle.std.proofs.lemmas.List.{get_or_default}
use Rattle.std.proofs.lemmas.List.Edits.{map_over_more}
use Rattle.dns_client.specs.Response.{failed_if}
use Rattle.dns_client.proofs.response.fail_reached.Goals as goal

pub loop-slot-preserved : goal.loop-slot-preserved
loop-slot-preserved c =
    let inside : c.loop-slot.slot-index < length c.args.slots.now = omega arith in
    let within : c.loop-slot.slot-index < length c.loop-slot.slots = omega arith in
    rw c.fail.ensures
    (map_over_more (failed_if c.args.arrived.now) c.args.slots.now c.loop-slot.slots c.loop-slot.slot-index
    (get_or c.loop-slot.slots c.loop-slot.slot-index c.slot-item.result) inside c.loop-slot.invariant
    (get_or_default c.loop-slot.slots c.loop-slot.slot-index c.slot-item.result
    (get_or c.loop-slot.slots c.loop-slot.slot-index c.slot-item.result) within))
