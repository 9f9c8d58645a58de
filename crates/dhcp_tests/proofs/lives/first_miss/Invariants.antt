-- What the client was told stays.
use Rattle.dhcp_client.specs.Config.{AreSettingsWritable}
use Rattle.dhcp_tests.proofs.lives.first_miss.Given as goal

abbrev pub invariant-loop-i : goal.invariant-loop-i
invariant-loop-i l = AreSettingsWritable l.socket.settings 1500
