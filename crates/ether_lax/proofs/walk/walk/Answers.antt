use Rattle.std.proofs.Common.{◌≡◌, ◌≤◌, length, Option, refl, sym, ap, ◌∙◌, subst, arith}
use Rattle.ether_lax.specs.Found.{Parts, found_in, no_parts, with_part}
use Rattle.ether_lax.specs.Parts.{part_at}
use Rattle.ether_lax.specs.Walks.{IsInside, LiesIn}
use Rattle.ether_link.specs.declared.layout.Place.{Place}
use Rattle.ether_lax.specs.declared.found.FoundIp.{FoundIp}
use Rattle.ether_lax.proofs.FoundLemmas.{inside_with, last_with}
use Rattle.ether_lax.proofs.WalkLemmas.{IsWalking, walk_begun, walk_taken, walk_stopped, walk_ended, walk_on}
use Rattle.ether_lax.proofs.walk.walk.Goals as goal

pub returns-then-is_taken-clause-value : goal.returns-then-is_taken-clause-value
returns-then-is_taken-clause-value c =
    let walking = c.loop-turn.invariant.walking in
    let here = rw c.in-Some.is at walking in
    walk_taken c.args.in_places c.args.frame.now c.args.first (found_in c.loop-turn.found) c.in-Some.now c.loop-turn.start c.loop-turn.end here
    (sym c.if-is_taken.ensures)

pub returns-in-Err-clause-value : goal.returns-in-Err-clause-value
returns-in-Err-clause-value c =
    let walking = c.loop-turn.invariant.walking in
    let here = rw c.in-Some.is at walking in
    walk_stopped c.args.in_places c.args.frame.now c.args.first (found_in c.loop-turn.found) c.in-Some.now c.loop-turn.start c.loop-turn.end here
    (sym c.if-is_taken.ensures) c.in-Err.refusal c.in-Err.ensures.value

pub loop-turn-preserved : goal.loop-turn-preserved
loop-turn-preserved c =
    let walking = c.loop-turn.invariant.walking in
    let here = rw c.in-Some.is at walking in
    let step = c.in-Ok.ensures.value.1 in
    let place = c.in-Ok.layer.place in
    let put : found_in c.put.new.self ≡ with_part c.args.frame.now c.in-Ok.layer.place (part_at c.args.frame.now c.in-Ok.layer.place) (found_in c.loop-turn.found)
    = c.put.ensures.value ∙ ap (λ part. with_part c.args.frame.now c.in-Ok.layer.place part (found_in c.loop-turn.found)) step.part_is in
    let on = walk_on c.args.in_places c.args.frame.now c.args.first (found_in c.loop-turn.found) c.in-Some.now c.loop-turn.start c.loop-turn.end here
    (sym c.if-is_taken.ensures) c.in-Ok.ensures.value.0 c.in-Ok.layer.place step.place_is c.in-Ok.layer.next step.next_is in
    let inside = inside_with c.args.frame.now c.in-Ok.layer.place c.loop-turn.start c.loop-turn.end (found_in c.loop-turn.found) step.between
    c.loop-turn.invariant.within (part_at c.args.frame.now c.in-Ok.layer.place) c.loop-turn.found.ip refl c.loop-turn.invariant.inside in
    let ip = ap (λ (parts : Parts). parts.ip) put in
    let room = step.between in
    let before = c.loop-turn.invariant.within in
    record {
      walking = subst (λ (parts : Parts). IsWalking c.args.in_places c.args.frame.now c.args.first parts c.in-Ok.layer.next c.in-Ok.layer.place.body c.in-Ok.layer.place.end)
          (sym put) on;
      order = step.between.window;
      within = omega arith;
      last = subst (λ (found : Option Place). LiesIn (length c.args.frame.now) found)
          (sym (ap (λ (parts : Parts). parts.last) put ∙ last_with c.args.frame.now c.in-Ok.layer.place (part_at c.args.frame.now c.in-Ok.layer.place) (found_in c.loop-turn.found)))
          (omega arith, omega arith, omega arith);
      inside = subst (λ (found : Option FoundIp). IsInside (length c.args.frame.now) c.in-Ok.layer.place.body found) (sym ip) inside;
    }

pub returns-clause-value : goal.returns-clause-value
returns-clause-value c =
    let walking = c.loop-turn.invariant.walking in
    let here = rw c.in_default.is at walking in
    walk_ended c.args.in_places c.args.frame.now c.args.first (found_in c.loop-turn.found) c.loop-turn.start c.loop-turn.end here

pub loop-turn-init : goal.loop-turn-init
loop-turn-init c =
    let nothing : found_in c.new-found.result ≡ no_parts = c.new-found.ensures in
    record {
      walking = subst (λ (parts : Parts). IsWalking c.args.in_places c.args.frame.now c.args.first parts c.args.first 0 (length c.args.frame.now)) (sym nothing)
          (walk_begun c.args.in_places c.args.frame.now c.args.first c.requires);
      order = omega arith;
      within = omega arith;
      inside = subst (λ (ip : Option FoundIp). IsInside (length c.args.frame.now) 0 ip) (sym (ap (λ (parts : Parts). parts.ip) nothing)) tt;
      last = subst (λ (place : Option Place). LiesIn (length c.args.frame.now) place) (sym (ap (λ (parts : Parts). parts.last) nothing)) tt;
    }
