-- The slots so far are those that a response fails, and those behind them are as before.
use Rattle.std.proofs.Common.{◌≡◌, ◌++◌, take, drop, map}
use Rattle.dns_client.specs.Response.{failed_if}
use Rattle.dns_client.proofs.response.fail_reached.Given as goal

abbrev pub invariant-loop-slot : goal.invariant-loop-slot
invariant-loop-slot l =
    l.slots ≡ map (failed_if l.arrived) (take l.slot-index l.fn.slots) ++ drop l.slot-index l.fn.slots
