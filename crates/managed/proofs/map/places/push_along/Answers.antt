use Rattle.std.proofs.Common.{◌-◌, ◌<◌, length, take, sym, arith}
use Rattle.std.proofs.lemmas.List.{length-take-le}
use Rattle.managed.proofs.EditLemmas.{pushed_room, pushed_full}
use Rattle.managed.proofs.map.places.push_along.Goals as goal
use Rattle.managed.proofs.map.places.push_along.Goals.{then-count-places, else-count-places}

-- the last of the places that turn is the first empty one, or the last of all
pub returns : goal.returns
returns g c =
    let places = c.args.places.now in
    let end = c.if-count-places.end in
    let some : 0 < length places = grind (arith, c.is_empty.ensures, c.if-is_empty.false) in
    elim c.if-count-places.branch [
      | then-count-places w ↦
          let long = length-take-le end places (omega arith) in
          rw c.rotate_right.ensures.after (pushed_room places c.args.item (length (take end places) - 1) end (omega arith) (omega arith) (omega arith))
      | else-count-places w ↦
          let long = length-take-le end places (omega arith) in
          rw c.rotate_right.ensures.after (pushed_full places c.args.item (length (take end places) - 1) end (omega arith) (omega arith) (omega arith))
    ]
