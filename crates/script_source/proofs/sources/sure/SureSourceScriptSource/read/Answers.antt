-- What is given is the front of what was left, as long as the buffer allows.
use Rattle.std.proofs.Common.{drop, arith, refl}
use Rattle.std.proofs.lemmas.Grind.{common_steps}
use Rattle.script_source.proofs.PieceLemmas.{given}
use Rattle.script_source.proofs.sources.sure.SureSourceScriptSource.read.Goals as goal

pub returns : goal.returns
returns c = record {
  within = grind (arith, common_steps, c.min-count.ensures, c.copy_from_slice.ensures.len);
  took = given c.args.self.now.bytes.items c.copy_from_slice.new.self (drop c.min-count.result c.args.into.now)
      c.args.self.now.at c.min-count.result (grind (arith, common_steps)) (grind (arith, common_steps));
  ended = grind (arith, common_steps);
  quiet = refl;
  err = tt;
  cause = tt;
}
