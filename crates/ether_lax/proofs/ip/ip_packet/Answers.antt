use Rattle.std.proofs.Common.{◌≡◌, true, Option, Some, None, refl, sym, ap, ◌∙◌}
use Rattle.std.specs.Prelude.{is_some}
use Rattle.ether_lax.specs.Found.{Parts, found_in, parts_of}
use Rattle.ether_lax.specs.Sliced.{net_of}
use Rattle.ether_lax.specs.Stops.{ip_stop, source_of_ip}
use Rattle.ether_lax.specs.declared.found.FoundIp.{FoundIp}
use Rattle.ether_lax.proofs.IpLemmas.{has_ip, not_none}
use Rattle.ether_lax.proofs.ip.ip_packet.Goals as goal

pub unreachable-requires : goal.unreachable-requires
unreachable-requires c =
    let walked = c.walk-found.ensures.value in
    let right = rw c.first.ensures at walked.layout in
    let there = has_ip c.args.slice.now walked.places walked.last c.requires right in
    let same : is_some c.walk-found.result.found.ip ≡ true = ap (λ (parts : Parts). is_some parts.ip) walked.parts_are ∙ there in
    not_none c.walk-found.result.found.ip same c.in-None.is

pub returns : goal.returns
returns c =
    let walked = c.walk-found.ensures.value in
    let here = c.in-Some.is in
    record {
      places = walked.places;
      last = walked.last;
      layout = rw c.first.ensures at (walked.layout);
      part = ap (λ (parts : Parts). net_of c.args.slice.now parts) (sym walked.parts_are) ∙ (rw (here, c.ip_by.ensures) refl);
      stopped = c.ip_stop-stop.ensures ∙ (rw (← walked.parts_are, here, walked.stopped) refl);
    }
