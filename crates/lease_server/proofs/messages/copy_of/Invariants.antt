-- What was copied is the front.
use Rattle.std.proofs.Common.{◌≡◌, take}
use Rattle.lease_server.proofs.messages.copy_of.Given as goal

abbrev pub invariant-loop-server : goal.invariant-loop-server
invariant-loop-server l = l.copy.items ≡ take l.server-index l.servers.items
