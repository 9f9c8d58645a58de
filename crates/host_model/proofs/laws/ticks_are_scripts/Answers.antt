use Rattle.std.proofs.Common.{arith}
use Rattle.host_model.proofs.ClassLemmas.{one_script}
use Rattle.host_model.proofs.TickLemmas.{ticks_in_order, ticks_spelled, ticks_count}
use Rattle.host_model.specs.Classes.{IsScript}
use Rattle.host_model.specs.TickScripts.{tick_bytes, ticks_at}
use Rattle.host_model.proofs.laws.ticks_are_scripts.Goals as goal

pub returns : goal.returns
returns c = λ max times rising few.
    let is : IsScript max (tick_bytes times) (ticks_at times) = record {
      in_order = ticks_in_order 0 times rising;
      few = omega (arith, few, ticks_count times);
      whole = ticks_spelled times;
    } in
    (is, λ events script. one_script max (tick_bytes times) events (ticks_at times) script is)
