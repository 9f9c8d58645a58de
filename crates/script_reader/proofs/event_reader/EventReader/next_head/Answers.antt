-- A head and what stands behind it are the next event, or what was taken of one that is none.
use Rattle.std.proofs.Common.{◌≡◌, false, leb, refl, take, drop, length, ◌++◌, arith, length-take-le}
use Rattle.std.proofs.KnownBytes.{Consumes-trans}
use Rattle.std.proofs.lemmas.Bool.Decides.{nat_tests}
use Rattle.std.proofs.lemmas.Result.{err_from_is_err_and}
use Rattle.host_model.specs.Script.{head_with}
use Rattle.script_reader.specs.EventReader.{state_inside}
use Rattle.script_reader.specs.Head.{byte_of}
use Rattle.script_reader.proofs.ReadingLemmas.{says_script}
use Rattle.script_reader.proofs.RestLemmas.{next_by, front_is}
use Rattle.script_reader.proofs.event_reader.EventReader.next_head.Goals as goal

pub returns-in_err-head-clause-err : goal.returns-in_err-head-clause-err
returns-in_err-head-clause-err g c =
    let refused = err_from_is_err_and c.from_residual.result c.from_residual.ensures.1 in
    let state = c.self.inside in
    let cuts = c.in_err-head.ensures.err in
    rw (refused.1, refused.2, ← c.self.view_is) (record {
      part = cuts.part;
      took = cuts.took;
      ends = cuts.ends;
      tried = λ is some. let goes_on : leb c.args.max_events state.events ≡ false = cuts.tried is some in grind (arith, nat_tests, goes_on);
      stays = refl;
    })

pub returns-in_err-head-clause-script : goal.returns-in_err-head-clause-script
returns-in_err-head-clause-script g c =
    let left = g.S.ScriptSource.left in
    let refused = err_from_is_err_and c.from_residual.result c.from_residual.ensures.1 in
    let state = c.self.inside in
    let cuts = c.in_err-head.ensures.err in
    rw (refused.1, refused.2, ← c.self.view_is)
    (says_script c.in_err-head.field-0.0 state.offset c.args.max_events state.events state.last_micros (left c.args.source.now) (left c.read_head.new.source)
    c.in_err-head.ensures.script cuts.part cuts.took cuts.ends)

pub returns-in_err-rest-clause-err : goal.returns-in_err-rest-clause-err
returns-in_err-rest-clause-err g c =
    let left = g.S.ScriptSource.left in
    let refused = err_from_is_err_and c.from_residual-in_err-rest.result c.from_residual-in_err-rest.ensures.1 in
    let state = c.self.inside in
    let head = c.in-Some.head in
    let found = rw c.in-Some.is at c.in_ok-head.ensures.found in
    let cuts = c.in_err-rest.ensures.err in
    let front = head_with (byte_of head.kind) head.micros in
    rw (refused.1, refused.2, ← c.self.view_is) (record {
      part = front ++ cuts.part;
      took = Consumes-trans (left c.args.source.now) (left c.read_head.new.source) (left c.read_rest.new.source) front cuts.part found.1.took cuts.took;
      ends = cuts.ends state.last_micros head.micros found.1.right;
      tried = λ is some. let goes_on : leb c.args.max_events state.events ≡ false = found.0 in grind (arith, nat_tests, goes_on);
      stays = refl;
    })

pub returns-in_err-rest-clause-script : goal.returns-in_err-rest-clause-script
returns-in_err-rest-clause-script g c =
    let left = g.S.ScriptSource.left in
    let refused = err_from_is_err_and c.from_residual-in_err-rest.result c.from_residual-in_err-rest.ensures.1 in
    let state = c.self.inside in
    let head = c.in-Some.head in
    let found = rw c.in-Some.is at c.in_ok-head.ensures.found in
    let cuts = c.in_err-rest.ensures.err in
    let front = head_with (byte_of head.kind) head.micros in
    rw (refused.1, refused.2, ← c.self.view_is)
    (says_script c.in_err-rest.field-0.0 state.offset c.args.max_events state.events state.last_micros (left c.args.source.now) (left c.read_rest.new.source)
    (λ o is. (c.in_err-rest.ensures.script o is, found.0)) (front ++ cuts.part)
    (Consumes-trans (left c.args.source.now) (left c.read_head.new.source) (left c.read_rest.new.source) front cuts.part found.1.took cuts.took)
    (cuts.ends state.last_micros head.micros found.1.right))

pub returns-clause-found : goal.returns-clause-found
returns-clause-found g c =
    let left = g.S.ScriptSource.left in
    let buffer = c.self.inside.rest in
    let into = c.read_rest.new.into in
    let rest = c.in_ok-rest.rest in
    let found = rw c.in-Some.is at c.in_ok-head.ensures.found in
    let gives = c.in_ok-rest.ensures.found in
    rw (← c.self.view_is)
    (next_by c.args.max_events (state_inside c.self.inside) (left c.args.source.now) (left c.read_head.new.source) (left c.read_rest.new.source)
    c.in-Some.head rest into (take rest.len (take buffer.len (into ++ drop (length into) buffer.items))) c.rest_len.result found.0
    found.1 gives (front_is into buffer.items buffer.len rest.len (omega arith) gives.within)
    (c.rest_len.ensures.value rest.kind (take rest.len into) gives.bytes gives.brings (length-take-le rest.len into gives.within)))
