-- No value is refused, so that a host can run by them.
use Rattle.std.proofs.Common.{rules, subst, sym}
use Rattle.net_host.specs.Config.{CanRun}
use Rattle.net_host.proofs.SettingsLemmas.{accepted}
use Rattle.net_host.proofs.config.HostConfig.new.Goals as goal

pub invariant_of-result : goal.invariant_of-result
invariant_of-result c = subst CanRun (sym c.values.view_is) (accepted c.args.values (search rules))
