use Rattle.host_top.proofs.Ipv4WordLemmas.{address_found, address_missed, cut_in_four, five_pieces}
use Rattle.host_top.proofs.ipv4_word.ipv4_of.Goals as goal

pub returns-in-Some-clause-refuses : goal.returns-in-Some-clause-refuses
returns-in-Some-clause-refuses c =
    let word = c.args.word.now in
    let a = c.in_ok-a.a.now in
    let b = c.in_ok-b.b.now in
    let d = c.in_ok-c.d.now in
    let cut = cut_in_four word a c.in_ok-a.behind_a.now b c.in_ok-b.behind_b.now c.in_ok-c.c.now d
    c.in_ok-a.ensures.found c.in_ok-b.ensures.found c.in_ok-c.ensures.found in
    five_pieces word a b c.in_ok-c.c.now d c.in-Some.field-0.0.now c.in-Some.field-0.1.now cut c.in-Some.ensures.found

pub returns-in-None-clause-found : goal.returns-in-None-clause-found
returns-in-None-clause-found c =
    let word = c.args.word.now in
    let a = c.in_ok-a.a.now in
    let b = c.in_ok-b.b.now in
    let d = c.in_ok-c.d.now in
    let cut = cut_in_four word a c.in_ok-a.behind_a.now b c.in_ok-b.behind_b.now c.in_ok-c.c.now d
    c.in_ok-a.ensures.found c.in_ok-b.ensures.found c.in_ok-c.ensures.found in
    address_found word a b c.in_ok-c.c.now d c.address_with.result cut c.in-None.ensures.none c.address_with.ensures.found

pub returns-in-None-clause-refuses : goal.returns-in-None-clause-refuses
returns-in-None-clause-refuses c =
    let word = c.args.word.now in
    let a = c.in_ok-a.a.now in
    let b = c.in_ok-b.b.now in
    let d = c.in_ok-c.d.now in
    let cut = cut_in_four word a c.in_ok-a.behind_a.now b c.in_ok-b.behind_b.now c.in_ok-c.c.now d
    c.in_ok-a.ensures.found c.in_ok-b.ensures.found c.in_ok-c.ensures.found in
    address_missed word a b c.in_ok-c.c.now d c.address_with.result cut c.in-None.ensures.none c.address_with.ensures.refuses
