use Rattle.host_top.proofs.command.live_of.Goals as goal

pub returns-in_err-command-clause-refuses : goal.returns-in_err-command-clause-refuses
returns-in_err-command-clause-refuses c =
    rw c.from_residual.ensures (λ command live. c.in_err-command.ensures.refuses command live.work)
