use Rattle.std.proofs.Common.{refl}
use Rattle.host_top.proofs.CommandLemmas.{accepted}
use Rattle.host_top.proofs.running.config_of.Goals as goal

pub unreachable-requires : goal.unreachable-requires
unreachable-requires c =
    accepted c.args.command.now _ c.in-Err.field-0 c.requires
    (rw (c.default.ensures, c.unwrap_or.ensures, c.longest_lease.ensures, c.unwrap_or-2.ensures) refl) c.in-Err.ensures.refuses
