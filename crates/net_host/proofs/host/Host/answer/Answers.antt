-- The event is answered, for each history that the host agrees with.
use Rattle.std.proofs.Common.{◌≡◌, ◌+◌, ◌≤◌, List, ◌∷◌, map, None, Some, sym, subst, ap, ◌∙◌, refl}
use Rattle.std.specs.Option.{option_map}
use Rattle.net_wire.specs.declared.error.Context.{Context}
use Rattle.dns_client.specs.Client.{client_of}
use Rattle.host_model.specs.declared.held.Held.{Held}
use Rattle.host_model.specs.Frames.{frames_of}
use Rattle.host_model.specs.Queries.{arrived_with, counted, looks_at, query_count, servers_before, slots_before}
use Rattle.host_model.specs.QueryLines.{lines_of}
use Rattle.host_model.specs.QueryLooks.{Looks}
use Rattle.host_model.specs.Neighbor.{told_to}
use Rattle.host_model.specs.QuerySlots.{freed}
use Rattle.net_host.specs.declared.emitter.Emitter.{Emitter}
use Rattle.net_host.specs.declared.report.Sent.{Sent}
use Rattle.net_host.specs.Emitter.{refused_hop}
use Rattle.net_host.specs.Hearing.{after_told}
use Rattle.net_host.specs.Holding.{host_holding, served_after}
use Rattle.net_host.specs.Listed.{AreListed}
use Rattle.net_host.specs.QueryHearing.{Hears}
use Rattle.net_host.specs.Neighbors.{pair_count, place_count}
use Rattle.net_host.specs.QueryLeaving.{LeavesLooks}
use Rattle.net_host.specs.QueryPolling.{PolledQueries}
use Rattle.net_host.specs.QueryStanding.{StandAs}
use Rattle.net_host.specs.Report.{AreCapturable}
use Rattle.script_reader.specs.Reading.{arrival_of, event_at}
use Rattle.net_host.proofs.ArrivedLemmas.{arrival_ready}
use Rattle.net_host.proofs.CrowdedLemmas.{since_from}
use Rattle.net_host.proofs.EventLemmas.{leased}
use Rattle.net_host.proofs.KeptLemmas.{told_places, told_few}
use Rattle.net_host.proofs.OverLemmas.{over, refused_first, same_line, none_some}
use Rattle.net_host.proofs.PollingLemmas.{instant_is, in_range}
use Rattle.net_host.proofs.QueryEventLemmas.{queried}
use Rattle.net_host.proofs.QueryPolledLemmas.{polled_is}
use Rattle.net_host.proofs.SmallLemmas.{polled_small, polled_table, polled_numbers}
use Rattle.net_host.proofs.StandingLemmas.{heard_slots, heard_stand, polled_stand}
use Rattle.net_host.proofs.host.Host.answer.Goals as goal
use Rattle.net_host.proofs.host.Host.answer.Goals.{in-Some+in_ok-put_first, in_default}

pub poll_dhcp-requires-clause-ready : goal.poll_dhcp-requires-clause-ready
poll_dhcp-requires-clause-ready c =
    rw c.in_ok-refused.ensures.dhcp
    (arrival_ready (record { now = c.args.at; hardware_addr = c.begin.new.self.hardware; ip_mtu = c.args.self.now.ip_mtu }) (arrival_of c.args.event) c.args.self.now.dhcp c.args.self.now.ip_mtu c.requires.can.ready)

pub returns-clause-value : goal.returns-clause-value
returns-clause-value c = λ settings before can agrees.
    let event = event_at c.args.at c.args.event in
    let old = c.args.self.now in
    let heard = c.hear.new.self in
    let cx : Context = record { now = c.args.at; hardware_addr = c.begin.new.self.hardware; ip_mtu = old.ip_mtu } in
    let hears = c.in_ok-refused.ensures in
    let begun_hardware = ap (λ (e : Emitter). e.hardware) c.begin.ensures ∙ agrees.hardware in
    let begun_numbers = ap (λ (e : Emitter). e.numbers) c.begin.ensures in
    let at_is = instant_is c.args.at c.requires.time in
    let one = leased settings before event c.args.words cx old c.begin.new.self heard.out c.poll_dhcp.new.out c.ask.new.self
    heard.dhcp c.poll_dhcp.new.dhcp can.retry
    (record { now = at_is; hardware = begun_hardware; ip_mtu = agrees.ip_mtu })
    (in_range c.args.at c.requires.time) agrees (since_from before old.last c.args.at agrees.last c.requires.can.order)
    (rw c.epoch_micros.ensures at c.begin.ensures) hears.out hears.dhcp hears.short
    c.in_ok-poll_dhcp.ensures.value (rw c.refused_hop-asked.ensures at c.in_ok-ask.ensures.value) in
    let servers = servers_before settings before in
    let slots = slots_before settings before in
    let begun = hears.queries.hears settings servers slots (sym begun_hardware) (sym agrees.dhcp.told)
    (subst (λ numbers. StandAs servers slots (client_of old.dns) numbers) (sym begun_numbers) agrees.queries.stand) in
    let heard_is = subst (λ count. Hears (arrived_with settings servers count event.arrival c.args.words slots) servers count heard c.in_ok-refused.refused)
    agrees.queries.count_is begun in
    let two = queried polled_is settings before event c.args.words (host_holding old) c.poll_dhcp.new.dhcp heard.out c.ask.new.self
    (record c.ask.new.self { refused = None }) c.poll_dns.new.out c.ask-2.new.self (client_of heard.dns) (client_of c.poll_dns.new.dns)
    (in_range c.args.at c.requires.time) one heard_is.stand refl
    (subst (λ now. PolledQueries now (client_of heard.dns) (record c.ask.new.self { refused = None }) (client_of c.poll_dns.new.dns) c.poll_dns.new.out)
    at_is c.in_ok-poll_dns.ensures.value)
    (rw (c.not_asked.ensures, c.refused_hop-asked.ensures ∙ sym (ap refused_hop c.in_ok-ask.ensures.value), c.refused_hop-address.ensures)
    at c.in_ok-ask-2.ensures.value) in
    let looks = (looks_at settings before event c.args.words).slots in
    let ended = c.in_ok-lines.ensures.stand servers looks two.stand in
    let done = over settings before event c.args.words old c.poll_dhcp.new.dhcp heard.out c.ask.new.self c.ask-2.new.self
    c.end_queries.new.out (client_of c.poll_dns.new.dns) (client_of c.hold.new.dns) c.hold.new.held agrees one two
    c.in_ok-lines.ensures.out c.hold.ensures.held
    (c.hold.ensures.servers servers (map freed looks) c.end_queries.new.out.numbers ended) in
    record {
      agrees = record {
        hardware = ap (λ (e : Emitter). e.hardware) c.take_sent-sent.ensures.rest ∙ done.hardware;
        ip_mtu = c.hear.ensures.mtu ∙ agrees.ip_mtu;
        last = ap (λ at. Some at) at_is;
        held = ap (λ (e : Emitter). e.held) c.take_sent-sent.ensures.rest ∙ done.holds_is;
        neighbors = rw c.take_sent-sent.ensures.rest done.neighbors;
        dhcp = rw (c.take_sent-sent.ensures.rest, c.hold.ensures.told) done.dhcp_is;
        queries = record {
          stand = rw c.take_sent-sent.ensures.rest done.stand;
          count_is = hears.queries.counts ∙ ap (counted event.arrival) agrees.queries.count_is;
        };
      };
      lease = c.lease-lease.ensures.value ∙ ap (option_map (λ (h : Held). h.address)) done.holds_is;
      frames = subst (λ list. AreListed settings (frames_of settings before event c.args.words) list)
          (sym (c.take_sent-sent.ensures.given ∙ ap (λ (e : Emitter). e.sent) c.in_ok-lines.ensures.out)) two.frames;
      lines = refused_first (query_count before) c.in_ok-refused.refused _ (lines_of looks) c.match-refused.lines heard_is.line
          (λ line is. elim c.match-refused.branch [
            | in-Some+in_ok-put_first w ↦ w.lines-is ∙ w.in_ok-put_first.ensures
                ∙ ap (λ one. one ∷ c.in_ok-lines.lines) (same_line w.in-Some.line line (sym w.in-Some.is ∙ is))
                ∙ ap (λ lines. line ∷ lines) (c.in_ok-lines.ensures.lines servers looks two.stand)
            | in_default w ↦ absurd (none_some line (sym w.in_default.is ∙ is))
          ])
          (λ none. elim c.match-refused.branch [
            | in-Some+in_ok-put_first w ↦ absurd (none_some w.in-Some.line (sym none ∙ w.in-Some.is))
            | in_default w ↦ w.lines-is ∙ c.in_ok-lines.ensures.lines servers looks two.stand
          ]);
    }

pub poll_dns-requires-clause-standing : goal.poll_dns-requires-clause-standing
poll_dns-requires-clause-standing c =
    let holds = c.requires.can.holds in
    record {
      slots = heard_slots c.args.self.now c.hear.new.self c.begin.new.self (arrival_of c.args.event) c.args.words c.in_ok-refused.refused
          holds (ap (λ (e : Emitter). e.numbers) c.begin.ensures) c.in_ok-refused.ensures.queries;
      slots_are = (heard_stand c.args.self.now c.hear.new.self c.begin.new.self (arrival_of c.args.event) c.args.words c.in_ok-refused.refused
          holds (ap (λ (e : Emitter). e.numbers) c.begin.ensures) c.in_ok-refused.ensures.queries).slots_are;
    }

-- the polling of the queries, whichever they are
polled : (c : goal.After-take_sent-sent) → (left : Looks)
    × LeavesLooks c.requires.can.holds.servers left (record c.ask.new.self { refused = None }) (client_of c.poll_dns.new.dns) c.poll_dns.new.out
polled c =
    polled_stand c.args.self.now c.hear.new.self c.begin.new.self (arrival_of c.args.event) c.args.words c.in_ok-refused.refused
    c.requires.can.holds (ap (λ (e : Emitter). e.numbers) c.begin.ensures) c.in_ok-refused.ensures.queries c.args.at (client_of c.poll_dns.new.dns) c.ask.new.self
    c.poll_dns.new.out c.requires.time
    (ap (λ (e : Emitter). e.numbers) c.in_ok-ask.ensures.value
    ∙ polled_numbers _ _ _ _ _ _ c.in_ok-poll_dhcp.ensures.value)
    c.in_ok-poll_dns.ensures.value

pub returns-clause-within : goal.returns-clause-within
returns-clause-within c =
    let P : List Sent → Type 0 = AreCapturable in
    let begun = subst P (sym (ap (λ (e : Emitter). e.sent) c.begin.ensures)) tt in
    rw (c.take_sent-sent.ensures.given, c.in_ok-lines.ensures.out)
    (c.in_ok-ask-2.ensures.small (c.in_ok-poll_dns.ensures.small (c.in_ok-ask.ensures.small
    (polled_small _ _ _ _ _ _ c.in_ok-poll_dhcp.ensures.value (c.in_ok-refused.ensures.small begun)))))

-- the table changes by what the arrival tells alone
neighbors_are : (c : goal.After-take_sent-sent)
    → c.take_sent-sent.new.self.neighbors
    ≡ (after_told (told_to c.begin.new.self.hardware (arrival_of c.args.event)) c.begin.new.self).neighbors
neighbors_are c =
    ap (λ (e : Emitter). e.neighbors) c.take_sent-sent.ensures.rest
    ∙ ap (λ (e : Emitter). e.neighbors) c.in_ok-lines.ensures.out
    ∙ ap (λ (e : Emitter). e.neighbors) c.in_ok-ask-2.ensures.value
    ∙ ap (λ (e : Emitter). e.neighbors) (polled c).1.later_is
    ∙ ap (λ (e : Emitter). e.neighbors) c.in_ok-ask.ensures.value
    ∙ polled_table _ _ _ _ _ _ c.in_ok-poll_dhcp.ensures.value
    ∙ ap (λ (e : Emitter). e.neighbors) c.in_ok-refused.ensures.out

pub returns-clause-places : goal.returns-clause-places
returns-clause-places c =
    ap place_count (neighbors_are c) ∙ told_places _ c.begin.new.self ∙ ap (λ (e : Emitter). place_count e.neighbors) c.begin.ensures

pub returns-clause-few : goal.returns-clause-few
returns-clause-few c =
    let told = told_to c.begin.new.self.hardware (arrival_of c.args.event) in
    subst (λ table. pair_count table ≤ pair_count c.args.self.now.out.neighbors + 1) (sym (neighbors_are c))
    (subst (λ (e : Emitter). pair_count (after_told told c.begin.new.self).neighbors ≤ pair_count e.neighbors + 1)
    c.begin.ensures (told_few told c.begin.new.self))

pub returns-clause-holds : goal.returns-clause-holds
returns-clause-holds c =
    let holds = c.requires.can.holds in
    let left = polled c in
    let asked = subst (λ numbers. StandAs holds.servers left.0.slots (client_of c.poll_dns.new.dns) numbers)
    (sym (ap (λ (e : Emitter). e.numbers) c.in_ok-ask-2.ensures.value)) left.1.stand in
    let ended = c.in_ok-lines.ensures.stand holds.servers left.0.slots asked in
    record {
      servers = served_after c.poll_dhcp.new.dhcp holds.servers;
      slots = map freed left.0.slots;
      stand = subst (λ (e : Emitter). StandAs (served_after c.poll_dhcp.new.dhcp holds.servers) (map freed left.0.slots)
          (client_of c.hold.new.dns) e.numbers) (sym c.take_sent-sent.ensures.rest)
          (c.hold.ensures.servers holds.servers (map freed left.0.slots) c.end_queries.new.out.numbers ended);
    }
