use Rattle.std.proofs.lemmas.List.{take_rest}
use Rattle.ether_link.proofs.link.linux_sll.LinuxSllSlice.payload.Goals as goal

pub returns-clause-value : goal.returns-clause-value
returns-clause-value c = rw (← c.self.view_is) (take_rest c.self.inside.slice.now 16)
