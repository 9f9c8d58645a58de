use Rattle.std.proofs.Common.{List, ℕ, ◌∙◌, ap, subst, sym, arith}
use Rattle.dns_client.specs.Client.{client_of}
use Rattle.host_model.specs.QueryStart.{started}
use Rattle.net_host.specs.QueryHearing.{line_for}
use Rattle.net_host.specs.QueryStanding.{StandAs}
use Rattle.net_host.proofs.host.Host.start.Goals as goal

pub returns-in-Some-clause-queries : goal.returns-in-Some-clause-queries
returns-in-Some-clause-queries c =
    let number = c.args.self.now.queries in
    record {
      counts = omega arith;
      hears = λ settings servers slots is_hardware is_client stand.
          let begun = λ (text : List ℕ). started number c.args.query_type text c.args.words slots in
          record {
            stand = subst (λ (text : List ℕ). StandAs servers (begun text).slots (client_of c.start.new.dns) c.start.new.out.numbers)
                c.in-Ok.ensures.cases.0 (c.start.ensures.stand servers slots stand);
            line = ap (line_for number)
                (sym c.in-Some.is ∙ c.start.ensures.refused servers slots stand
                ∙ ap (λ (text : List ℕ). (begun text).refused) c.in-Ok.ensures.cases.0);
          };
    }

pub returns-in-None-clause-queries : goal.returns-in-None-clause-queries
returns-in-None-clause-queries c =
    let number = c.args.self.now.queries in
    record {
      counts = omega arith;
      hears = λ settings servers slots is_hardware is_client stand.
          let begun = λ (text : List ℕ). started number c.args.query_type text c.args.words slots in
          record {
            stand = subst (λ (text : List ℕ). StandAs servers (begun text).slots (client_of c.start.new.dns) c.start.new.out.numbers)
                c.in-Ok.ensures.cases.0 (c.start.ensures.stand servers slots stand);
            line = ap (line_for number)
                (sym c.in-None.is ∙ c.start.ensures.refused servers slots stand
                ∙ ap (λ (text : List ℕ). (begun text).refused) c.in-Ok.ensures.cases.0);
          };
    }
