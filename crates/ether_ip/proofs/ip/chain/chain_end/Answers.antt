use Rattle.std.proofs.Common.{◌++◌, ◌∷◌, [], length, false, arith}
use Rattle.ether_ip.specs.ExtensionGrammar.{first_extension_kind}
use Rattle.ether_ip.proofs.WalkLemmas.{extensions_begun, extensions_stopped, extensions_go_on_by, extensions_ended, place_here}
use Rattle.ether_ip.proofs.ip.chain.chain_end.Goals as goal

pub loop-named-init : goal.loop-named-init
loop-named-init c = (
  [],
  rw c.first_extension_kind-named.ensures
      (extensions_begun c.args.bytes.now (first_extension_kind c.args.start.0) c.args.start.0 false 0 (length c.args.bytes.now) (omega arith)),
)

pub returns-in-Err : goal.returns-in-Err
returns-in-Err c =
    let extensions = c.loop-named.invariant.1 in
    let here = rw c.in-Some.is at extensions in
    record {
      value = (
        c.loop-named.invariant.0,
        record {
          layout = extensions_stopped c.args.bytes.now (first_extension_kind c.args.start.0) c.args.start.0 false 0 (length c.args.bytes.now)
              c.loop-named.at c.loop-named.number.0 c.loop-named.fragmented c.in-Some.kind c.loop-named.invariant.0 here c.in-Err.refusal c.in-Err.ensures.value;
          at_end = here.at_end;
          within = here.within;
          next_is = here.next_is;
          fragmented_is = here.fragmented_is;
        },
      );
    }

pub loop-named-preserved : goal.loop-named-preserved
loop-named-preserved c =
    let extensions = c.loop-named.invariant.1 in
    let here = rw c.in-Some.is at extensions in (
      c.loop-named.invariant.0 ++ place_here c.args.bytes.now (first_extension_kind c.args.start.0) c.args.start.0 false 0 (length c.args.bytes.now)
          c.loop-named.at c.loop-named.number.0 c.loop-named.fragmented c.in-Some.kind c.loop-named.invariant.0 here ∷ [],
      rw (c.slice.ensures.value, c.next_header-number.ensures.value, c.is_fragmenting_behind-fragmented.ensures.value, c.extension_behind-named.ensures, c.next_header-number.ensures.value)
          (extensions_go_on_by c.args.bytes.now (first_extension_kind c.args.start.0) c.args.start.0 false 0 (length c.args.bytes.now)
          c.loop-named.at c.loop-named.number.0 c.loop-named.fragmented c.in-Some.kind c.loop-named.invariant.0 here c.in-Ok.header
          c.in-Ok.ensures.value.0 c.in-Ok.ensures.value.1),
    )

pub returns : goal.returns
returns c =
    let extensions = c.loop-named.invariant.1 in
    let here = rw c.in_default.is at extensions in
    record {
      value = (
        c.loop-named.invariant.0,
        record {
          layout = extensions_ended c.args.bytes.now (first_extension_kind c.args.start.0) c.args.start.0 false 0 (length c.args.bytes.now)
              c.loop-named.at c.loop-named.number.0 c.loop-named.fragmented c.loop-named.invariant.0 here;
          at_end = here.at_end;
          within = here.within;
          next_is = here.next_is;
          fragmented_is = here.fragmented_is;
        },
      );
    }
