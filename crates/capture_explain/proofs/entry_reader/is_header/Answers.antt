-- A header is known by its two ends.
use Rattle.capture_explain.proofs.ReadingLemmas.{is_header, front_of, end_of}
use Rattle.capture_explain.proofs.entry_reader.is_header.Goals as goal

pub returns-then-same_bytes-clause-yes : goal.returns-then-same_bytes-clause-yes
returns-then-same_bytes-clause-yes c = λ yes.
    is_header c.args.bytes.now c.requires (c.same_bytes.ensures.0 c.if-same_bytes.true)
    (c.same_bytes-then-same_bytes.ensures.0 yes)

pub returns-then-same_bytes-clause-no : goal.returns-then-same_bytes-clause-no
returns-then-same_bytes-clause-no c = λ no is.
    let yes = c.same_bytes-then-same_bytes.ensures.1 (end_of c.args.bytes.now c.requires is) in
    cc

pub returns-else-same_bytes-clause-no : goal.returns-else-same_bytes-clause-no
returns-else-same_bytes-clause-no c = λ no is.
    let yes = c.same_bytes.ensures.1 (front_of c.args.bytes.now is) in
    cc
