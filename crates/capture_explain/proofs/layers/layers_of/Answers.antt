-- A part more is listed, or the walk has ended.
use Rattle.std.proofs.Common.{Some, None, ap, refl, arith}
use Rattle.capture_explain.proofs.LayerLemmas.{listing_begun, listing_on, listing_stopped, listing_ended}
use Rattle.capture_explain.proofs.layers.layers_of.Goals as goal

pub returns-in-Err : goal.returns-in-Err
returns-in-Err c =
    let now = c.loop-turn in
    let here = rw c.in-Some.is at now.invariant.listing in
    listing_stopped c.args.frame.now now.parts now.ah now.seen c.in-Some.now now.start now.end here c.in-Err.field-0 c.in-Err.ensures.value
    (record { parts = now.parts; ah = now.ah; esp = None; stop = Some c.layer.result; free = c.is_free.result }) refl refl refl c.is_free.ensures
    (ap Some c.layer.ensures.value)

pub loop-turn-init : goal.loop-turn-init
loop-turn-init c = record {
  listing = rw (c.new-parts.ensures, c.new-ah.ensures, c.ethernet-turn.ensures)
      (listing_begun c.args.frame.now c.new-seen.result c.new-seen.ensures.0 c.new-seen.ensures.2);
  order = omega arith;
  within = omega arith;
  few = c.requires;
}

pub loop-turn-preserved : goal.loop-turn-preserved
loop-turn-preserved c =
    let now = c.loop-turn in
    let here = rw c.in-Some.is at now.invariant.listing in
    let step = c.in-Ok.ensures.value.1 in
    let added = c.in_ok-add_part-in-Ok.ensures in
    let put = c.put.ensures in
    record {
      listing = listing_on c.args.frame.now now.parts now.ah now.seen c.in-Some.now now.start now.end here c.in-Ok.ensures.value.0 c.in-Ok.layer.place
          step.place_is c.in-Ok.layer.part step.part_is c.in-Ok.layer.next step.next_is c.add_part.new.parts added.parts c.add_part.new.ah added.ah
          step.between.window (omega (arith, step.between.within, now.invariant.within)) c.put.new.self put.held put.free put.payload;
      order = step.between.window;
      within = omega (arith, step.between.within, now.invariant.within);
      few = now.invariant.few;
    }

pub returns : goal.returns
returns c =
    let now = c.loop-turn in
    let here = rw c.in_default.is at now.invariant.listing in
    listing_ended c.args.frame.now now.parts now.ah now.seen now.start now.end here
    (record { parts = now.parts; ah = now.ah; esp = c.esp_at.result; stop = None; free = now.seen.free }) refl refl c.esp_at.ensures refl refl
