-- A name stands behind the head of a query, or behind its type.
use Rattle.std.proofs.lemmas.Result.{err_from_is_err_and}
use Rattle.script_reader.proofs.CutRestLemmas.{plain_name, typed_name}
use Rattle.script_reader.proofs.RestLemmas.{typed_query}
use Rattle.script_reader.proofs.script.read_rest.Goals as goal

pub returns-in_err-len-in-Query-clause-err : goal.returns-in_err-len-in-Query-clause-err
returns-in_err-len-in-Query-clause-err g c =
    let left = g.S.ScriptSource.left in
    let refused = err_from_is_err_and c.from_residual.result c.from_residual.ensures.1 in
    rw (refused.1, refused.2, c.in-Query.is)
    (plain_name c.in_err-len-in-Query.field-0.0 (left c.args.source.now) (left c.read_name.new.source) c.in_err-len-in-Query.ensures.err)

pub returns-in_err-len-in-TypedQuery-clause-err : goal.returns-in_err-len-in-TypedQuery-clause-err
returns-in_err-len-in-TypedQuery-clause-err g c =
    let left = g.S.ScriptSource.left in
    let refused = err_from_is_err_and c.from_residual-in_err-len-in-TypedQuery.result c.from_residual-in_err-len-in-TypedQuery.ensures.1 in
    rw (refused.1, refused.2, c.in-TypedQuery.is)
    (typed_name c.in_err-len-in-TypedQuery.field-0.0 (left c.args.source.now) (left c.read_type.new.source) (left c.read_name-in-TypedQuery.new.source)
    c.in_ok-query_type-in-TypedQuery.query_type c.in_ok-query_type-in-TypedQuery.ensures.found c.in_err-len-in-TypedQuery.ensures.err)

pub returns-in_ok-len-in-TypedQuery-clause-found : goal.returns-in_ok-len-in-TypedQuery-clause-found
returns-in_ok-len-in-TypedQuery-clause-found g c =
    let left = g.S.ScriptSource.left in
    rw c.in-TypedQuery.is
    (typed_query (left c.args.source.now) (left c.read_type.new.source) (left c.read_name-in-TypedQuery.new.source)
    c.in_ok-query_type-in-TypedQuery.query_type c.read_name-in-TypedQuery.new.into c.in_ok-len-in-TypedQuery.len
    c.in_ok-query_type-in-TypedQuery.ensures.found c.in_ok-len-in-TypedQuery.ensures.found)
