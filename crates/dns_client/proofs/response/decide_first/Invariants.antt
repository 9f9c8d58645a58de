-- No slot so far is reached.
use Rattle.std.proofs.Common.{◌≡◌, ◌++◌, take, drop}
use Rattle.dns_client.specs.Response.{first_decided}
use Rattle.dns_client.proofs.response.decide_first.Given as goal

abbrev pub invariant-loop-at : goal.invariant-loop-at
invariant-loop-at l = record {
  same : l.slots ≡ l.fn.slots;
  passed : take l.at l.slots ++ first_decided l.arrived l.packet (drop l.at l.slots) ≡ first_decided l.arrived l.packet l.slots;
}
