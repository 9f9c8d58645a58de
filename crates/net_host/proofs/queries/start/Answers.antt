use Rattle.std.proofs.Common.{arith}
use Rattle.dns_client.specs.Client.{client_of}
use Rattle.net_host.proofs.QueryBegunLemmas.{started_ok, started_err}
use Rattle.net_host.proofs.queries.start.Goals as goal

pub returns-then-slot-lt16-clause-stand : goal.returns-then-slot-lt16-clause-stand
returns-then-slot-lt16-clause-stand c = λ servers slots stand.
    let begun = started_ok servers slots c.args.out.now.numbers (client_of c.args.dns.now) (client_of c.start_query.new.self) c.args.number
    c.args.query_type c.args.name.now c.args.words stand c.requires c.in-Ok.handle c.in-Ok.ensures.value in
    rw c.slot-slot.ensures.value begun.stand

pub returns-then-slot-lt16-clause-refused : goal.returns-then-slot-lt16-clause-refused
returns-then-slot-lt16-clause-refused c = λ servers slots stand.
    (started_ok servers slots c.args.out.now.numbers (client_of c.args.dns.now) (client_of c.start_query.new.self) c.args.number
    c.args.query_type c.args.name.now c.args.words stand c.requires c.in-Ok.handle c.in-Ok.ensures.value).refused

pub returns-else-slot-lt16-clause-stand : goal.returns-else-slot-lt16-clause-stand
returns-else-slot-lt16-clause-stand c = λ servers slots stand.
    let begun = started_ok servers slots c.args.out.now.numbers (client_of c.args.dns.now) (client_of c.start_query.new.self) c.args.number
    c.args.query_type c.args.name.now c.args.words stand c.requires c.in-Ok.handle c.in-Ok.ensures.value in
    let no : ⊥ = omega (arith, begun.inside, c.slot-slot.ensures.value, c.if-slot-lt16.false) in
    absurd no

pub returns-else-slot-lt16-clause-refused : goal.returns-else-slot-lt16-clause-refused
returns-else-slot-lt16-clause-refused c = λ servers slots stand.
    (started_ok servers slots c.args.out.now.numbers (client_of c.args.dns.now) (client_of c.start_query.new.self) c.args.number
    c.args.query_type c.args.name.now c.args.words stand c.requires c.in-Ok.handle c.in-Ok.ensures.value).refused

pub returns-in-Err-clause-stand : goal.returns-in-Err-clause-stand
returns-in-Err-clause-stand c = λ servers slots stand.
    (started_err servers slots c.args.out.now.numbers (client_of c.args.dns.now) (client_of c.start_query.new.self) c.args.number
    c.args.query_type c.args.name.now c.args.words stand c.requires c.in-Err.error c.in-Err.ensures.value).stand

pub returns-in-Err-clause-refused : goal.returns-in-Err-clause-refused
returns-in-Err-clause-refused c = λ servers slots stand.
    (started_err servers slots c.args.out.now.numbers (client_of c.args.dns.now) (client_of c.start_query.new.self) c.args.number
    c.args.query_type c.args.name.now c.args.words stand c.requires c.in-Err.error c.in-Err.ensures.value).refused
