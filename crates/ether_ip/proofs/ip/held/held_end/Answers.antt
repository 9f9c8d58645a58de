use Rattle.std.proofs.Common.{[], ◌∷◌, ◌++◌, sym}
use Rattle.ether_link.specs.declared.layout.Place.{Place}
use Rattle.ether_ip.proofs.HeldLemmas.{none_taken, one_more_held, held_ended, held_stopped, held_taken}
use Rattle.ether_ip.proofs.WalkLemmas.{extensions_begun, extensions_go_on_by, place_here}
use Rattle.ether_ip.proofs.ip.held.held_end.Goals as goal

pub loop-named-init : goal.loop-named-init
loop-named-init c = (
  [],
  extensions_begun c.args.packet.now c.args.first c.args.before.number.0 c.args.before.fragmented c.args.before.at c.args.end c.requires.order,
  rw c.new-held.ensures.value (none_taken c.args.packet.now),
)

pub returns-then-is_taken : goal.returns-then-is_taken
returns-then-is_taken c =
    let extensions = c.loop-named.invariant.1 in
    let here = rw c.in-Some.is at extensions in
    record {
      value = held_taken c.args.packet.now c.args.first c.args.before.number.0 c.args.before.fragmented c.args.before.at c.args.end
          c.loop-named.behind.at c.loop-named.behind.number.0 c.loop-named.behind.fragmented c.loop-named.held c.loop-named.invariant.0
          c.loop-named.invariant.2 c.in-Some.kind here (sym c.if-is_taken.ensures.value);
    }

pub returns-in-Err : goal.returns-in-Err
returns-in-Err c =
    let extensions = c.loop-named.invariant.1 in
    let here = rw c.in-Some.is at extensions in
    record {
      value = held_stopped c.args.packet.now c.args.first c.args.before.number.0 c.args.before.fragmented c.args.before.at c.args.end
          c.loop-named.behind.at c.loop-named.behind.number.0 c.loop-named.behind.fragmented c.loop-named.held c.loop-named.invariant.0
          c.loop-named.invariant.2 c.in-Some.kind here (sym c.if-is_taken.ensures.value) c.in-Err.refusal c.in-Err.ensures.value;
    }

pub loop-named-preserved : goal.loop-named-preserved
loop-named-preserved c =
    let extensions = c.loop-named.invariant.1 in
    let here = rw c.in-Some.is at extensions in
    let place : Place = place_here c.args.packet.now c.args.first c.args.before.number.0 c.args.before.fragmented c.args.before.at c.args.end
    c.loop-named.behind.at c.loop-named.behind.number.0 c.loop-named.behind.fragmented c.in-Some.kind c.loop-named.invariant.0 here in (
      c.loop-named.invariant.0 ++ place ∷ [],
      rw (c.slice.ensures.value, c.next_header.ensures.value, c.is_fragmenting_behind.ensures.value, c.extension_behind-named.ensures, c.next_header.ensures.value)
          (extensions_go_on_by c.args.packet.now c.args.first c.args.before.number.0 c.args.before.fragmented c.args.before.at c.args.end
          c.loop-named.behind.at c.loop-named.behind.number.0 c.loop-named.behind.fragmented c.in-Some.kind c.loop-named.invariant.0 here c.in-Ok.header
          c.in-Ok.ensures.value.0 c.in-Ok.ensures.value.1),
      rw c.put.ensures.value
          (one_more_held c.args.packet.now c.loop-named.held c.loop-named.invariant.0 c.in-Some.kind c.loop-named.behind.at c.args.end c.in-Ok.header
          c.in-Ok.ensures.value.0 c.in-Ok.ensures.value.1 c.loop-named.invariant.2 (sym c.if-is_taken.ensures.value)),
    )

pub returns : goal.returns
returns c =
    let extensions = c.loop-named.invariant.1 in
    let here = rw c.in_default.is at extensions in
    record {
      value = held_ended c.args.packet.now c.args.first c.args.before.number.0 c.args.before.fragmented c.args.before.at c.args.end
          c.loop-named.behind.at c.loop-named.behind.number.0 c.loop-named.behind.fragmented c.loop-named.held c.loop-named.invariant.0
          c.loop-named.invariant.2 here;
    }
