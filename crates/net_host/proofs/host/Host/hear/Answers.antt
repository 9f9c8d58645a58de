use Rattle.std.proofs.Common.{◌≡◌, None, ◌∙◌, ap, subst, sym}
use Rattle.std.specs.Option.{option_map}
use Rattle.net_wire.specs.Arrival.{arriving_datagram}
use Rattle.net_wire.specs.ArrivalValues.{datagram_value}
use Rattle.dhcp_client.specs.Client.{Client}
use Rattle.host_model.specs.Script.{Frame}
use Rattle.net_host.specs.declared.emitter.Emitter.{Emitter}
use Rattle.net_host.specs.declared.host.Host.{Host}
use Rattle.net_host.specs.QueryHearing.{HearsQueries}
use Rattle.net_host.specs.QueryStanding.{StandAs}
use Rattle.script_reader.specs.Reading.{arrival_of}
use Rattle.net_host.proofs.QueryHeardLemmas.{frame_heard, told_hardware, told_numbers}
use Rattle.net_host.proofs.host.Host.hear.Goals as goal

pub returns-in_ok-take_told-in-Frame-clause-queries : goal.returns-in_ok-take_told-in-Frame-clause-queries
returns-in_ok-take_told-in-Frame-clause-queries c =
    let bytes = c.in-Frame.frame.now in
    let old = c.args.self.now in
    let told = c.in_ok-take_told-in-Frame.ensures in
    let new : Host = record c.take_told.new.self { dhcp = c.tell_datagram.new.dhcp; dns = c.tell_datagram.new.dns } in
    let arrival : arrival_of c.args.event ≡ Frame bytes = ap arrival_of c.in-Frame.is in
    let same_hardware = ap (λ (e : Emitter). e.hardware) told.out ∙ told_hardware c.arp_of-told.result old.out in
    subst (λ a. HearsQueries a c.args.words old new None) (sym arrival)
    (frame_heard bytes c.args.words old new (option_map datagram_value c.datagram_of-datagram.result)
    told.queries
    (ap (λ (e : Emitter). e.numbers) told.out ∙ told_numbers c.arp_of-told.result old.out)
    (ap (λ hardware. arriving_datagram hardware bytes) (sym same_hardware) ∙ sym c.datagram_of-datagram.ensures)
    (λ settings servers slots numbers is_client stand.
    c.tell_datagram.ensures.queries settings servers slots numbers
    (is_client ∙ sym (ap (λ (d : Client). d.settings) told.dhcp))
    (subst (λ client. StandAs servers slots client numbers) (sym told.dns) stand)))
