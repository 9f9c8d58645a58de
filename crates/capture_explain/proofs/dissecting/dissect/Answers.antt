-- Both are of one layout.
use Rattle.capture_explain.proofs.DissectionLemmas.{dissected}
use Rattle.capture_explain.proofs.dissecting.dissect.Goals as goal

pub returns : goal.returns
returns c = record {
  value = dissected c.args.frame.now c.in_ok-layers.layers c.agree_on.result c.in_ok-layers.ensures c.agree_on.ensures;
}
