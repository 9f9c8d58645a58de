use Rattle.std.specs.Prelude.{slice_range}
use Rattle.ether_lax.proofs.StepLemmas.{header_alone, stepped}
use Rattle.ether_lax.proofs.step.next_layer.Goals as goal

pub announced-said-requires : goal.announced-said-requires
announced-said-requires c = rw c.in_ok-header_len.ensures.1.0
    (header_alone c.args.turn.kind (slice_range c.args.frame.now c.args.start c.args.end) c.in_ok-header_len.ensures.0)

pub source-requires : goal.source-requires
source-requires c = rw c.in_ok-header_len.ensures.1.0
    (header_alone c.args.turn.kind (slice_range c.args.frame.now c.args.start c.args.end) c.in_ok-header_len.ensures.0)

pub next_turn-requires-clause-header : goal.next_turn-requires-clause-header
next_turn-requires-clause-header c = rw c.in_ok-header_len.ensures.1.0
    (header_alone c.args.turn.kind (slice_range c.args.frame.now c.args.start c.args.end) c.in_ok-header_len.ensures.0)

pub returns : goal.returns
returns c = record {
  value = (
    c.in_ok-header_len.ensures.0,
    stepped c.args.frame.now c.args.turn c.args.start c.args.end c.requires.order c.requires.within c.in_ok-header_len.ensures.0
        c.in_ok-header_len.header_len c.cut_at-there.result c.announced-said.result c.in_ok-header_len.part c.source.result c.is_cut_off.result c.next_turn.result
        c.in_ok-header_len.ensures.1.0 c.announced-said.ensures c.cut_at-there.ensures c.in_ok-header_len.ensures.1.1 c.source.ensures c.is_cut_off.ensures c.next_turn.ensures,
  );
}
