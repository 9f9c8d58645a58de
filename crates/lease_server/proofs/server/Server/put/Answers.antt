use Rattle.std.proofs.Common.{sym, ◌∙◌, refl}
use Rattle.lease_server.proofs.ServeLemmas.{prolongs_server, prolonged_server, admits_server, admitted_server, never_full}
use Rattle.lease_server.proofs.server.Server.put.Goals as goal

pub invariant_of-self : goal.invariant_of-self
invariant_of-self c = prolongs_server c.self.inside c.self.invariant c.args.self.now c.self.view_is c.args.lease c.requires.within c.requires.alone c.in-Some.key
    (sym c.get.ensures ∙ sym c.copied.ensures ∙ c.in-Some.is) c.replace.new.self c.replace.result c.replace.ensures.found c.replace.ensures.written c.replace.ensures.others

pub returns-in-Some-clause-holds : goal.returns-in-Some-clause-holds
returns-in-Some-clause-holds c = prolonged_server c.self.inside c.self.invariant c.args.self.now c.self.view_is c.args.lease c.requires.within c.requires.alone c.in-Some.key
    (sym c.get.ensures ∙ sym c.copied.ensures ∙ c.in-Some.is) c.replace.new.self c.replace.result c.replace.ensures.found c.replace.ensures.written c.replace.ensures.others

pub invariant_of-self-in-Some-hand_out : goal.invariant_of-self-in-Some-hand_out
invariant_of-self-in-Some-hand_out c = admits_server c.self.inside c.self.invariant c.args.self.now c.self.view_is c.args.lease c.requires.within c.requires.alone
    (sym c.get.ensures ∙ sym c.copied.ensures ∙ c.in-None.is) c.in-Some-hand_out.key c.in-Some-hand_out.ensures.value c.in-Some-hand_out.ensures.room
    c.hand_out.new.self c.in-Some-hand_out.ensures.places c.in-Some-hand_out.ensures.others
    c.replace-in-Some-hand_out.new.self c.replace-in-Some-hand_out.result c.replace-in-Some-hand_out.ensures.found c.replace-in-Some-hand_out.ensures.written
    c.replace-in-Some-hand_out.ensures.others c.insert.new.self c.insert.result c.insert.ensures.cause c.insert.ensures.ok c.insert.ensures.sorted c.insert.ensures.within

pub returns-in-Some-hand_out-clause-holds : goal.returns-in-Some-hand_out-clause-holds
returns-in-Some-hand_out-clause-holds c = admitted_server c.self.inside c.self.invariant c.args.self.now c.self.view_is c.args.lease c.requires.within c.requires.alone
    (sym c.get.ensures ∙ sym c.copied.ensures ∙ c.in-None.is) c.in-Some-hand_out.key c.in-Some-hand_out.ensures.value c.in-Some-hand_out.ensures.room
    c.hand_out.new.self c.in-Some-hand_out.ensures.places c.in-Some-hand_out.ensures.others
    c.replace-in-Some-hand_out.new.self c.replace-in-Some-hand_out.result c.replace-in-Some-hand_out.ensures.found c.replace-in-Some-hand_out.ensures.written
    c.replace-in-Some-hand_out.ensures.others c.insert.new.self c.insert.result c.insert.ensures.cause c.insert.ensures.ok c.insert.ensures.sorted c.insert.ensures.within

pub returns-in_default-clause-holds : goal.returns-in_default-clause-holds
returns-in_default-clause-holds c = λ other. absurd (never_full c.self.inside c.self.invariant c.args.self.now c.self.view_is c.args.lease c.requires.within c.requires.alone
    (sym c.get.ensures ∙ sym c.copied.ensures ∙ c.in-None.is) (c.in_default.ensures.refuses.0 refl))
