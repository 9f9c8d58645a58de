use Rattle.std.proofs.Common.{refl}
use Rattle.ether_ip.specs.Held.{extensions_of}
use Rattle.ether_lax.specs.Found.{found_in}
use Rattle.ether_lax.specs.Nets.{chain_in}
use Rattle.ether_lax.proofs.HeldLemmas.{chain_same}
use Rattle.ether_lax.proofs.agreement.holds_chain.Goals as goal

pub returns-then-same_last : goal.returns-then-same_last
returns-then-same_last c =
    let same = chain_same (chain_in c.args.chain.now) c.args.exts.now c.to_header.result (found_in c.walk-placed.result.found) (found_in c.walk-all.result.found)
    c.walk-placed.result.stop c.walk-all.result.stop c.slice-2.result.now c.slice.result.now c.first_header.result c.chain_turn-first.result
    c.slice-2.ensures.value c.slice.ensures.value c.first_header.ensures.value c.chain_turn-first.ensures.value
    c.walk-placed.ensures.value c.walk-all.ensures.value c.to_header.ensures.value in
    (λ yes. same.0 (c.if-same_last.ensures.0 refl) (c.same_extensions.ensures.0 yes), λ holds. c.same_extensions.ensures.1 (same.1 holds).1)

pub returns-else-same_last : goal.returns-else-same_last
returns-else-same_last c =
    let placed = found_in c.walk-placed.result.found in
    let same = chain_same (chain_in c.args.chain.now) c.args.exts.now (extensions_of placed.held) placed (found_in c.walk-all.result.found)
    c.walk-placed.result.stop c.walk-all.result.stop c.slice-2.result.now c.slice.result.now c.first_header.result c.chain_turn-first.result
    c.slice-2.ensures.value c.slice.ensures.value c.first_header.ensures.value c.chain_turn-first.ensures.value
    c.walk-placed.ensures.value c.walk-all.ensures.value refl in
    (λ yes. absurd (cc), λ holds. c.same_last.ensures.1 (same.1 holds).0)
