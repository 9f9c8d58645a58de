-- The words make as many events as one likes.
use Rattle.std.proofs.Common.{◌≡◌, ℕ, zero, suc, ◌*◌, ◌/◌, ◌%◌, ◌<◌, List, [], ◌++◌, length, refl, subst, inl, arith}
use Rattle.std.specs.Int.{to_be_bytes, w16}
use Rattle.net_wire.specs.declared.dhcp.DhcpMessageType.TheVariants.{Offer, Ack}
use Rattle.net_wire.specs.declared.dns.dns_type.DnsType.TheVariants.{A}
use Rattle.net_wire.specs.Arp.{arp_bytes, arp_frame_bytes}
use Rattle.net_wire.specs.Datagram.{Datagram, ethernet_bytes}
use Rattle.host_model.specs.declared.words.EventWords.{EventWords}
use Rattle.host_model.specs.Neighbor.{ethernet_broadcast}
use Rattle.host_model.specs.Script.{Arrival, Tick, Reset, Frame, Query, SpellsArrival, IsArrival, name_part, head_with}
use Rattle.made_script.specs.Growing.{GainsMade}
use Rattle.made_script.specs.Made.{Turn, Starts, Offers, Grants, Tells, Asks, Answers, Waits, turn_in, words_of_start, words_of_asking, Brings, BringsDatagram, IsMadeScript, MakesSome}
use Rattle.made_script.specs.Server.{datagram_to_all, server_station, grant_datagram, told_frame, asked_name, request_by, response_bytes}
use Rattle.made_script.proofs.GrantLemmas.{grant_size}
use Rattle.made_script.proofs.MadeLemmas.{asked_utf8}
use Rattle.made_script.proofs.ScriptLemmas.{none_made, script_grows}
use Rattle.made_script.proofs.SentLemmas.{some_frame, length-frame}

-- what an event brings, and its bytes behind the head
record Brought (words : List ℕ) (round : ℕ) (turn : Turn) : Type 0 where
  arrival : Arrival
  brings : Brings words round turn arrival
  is : IsArrival arrival
  kind : ℕ
  rest : List ℕ
  spelled : SpellsArrival arrival kind rest

-- a frame whose length has two bytes
record FrameOf (datagram : Datagram) : Type 0 where
  arrival : Arrival
  brings : BringsDatagram datagram arrival
  is : IsArrival arrival
  rest : List ℕ
  spelled : SpellsArrival arrival 1 rest

frame_of : (source_port destination_port : ℕ) (payload : List ℕ) → length payload < 65000 → FrameOf (datagram_to_all source_port destination_port payload)
frame_of source_port destination_port payload short =
    let datagram = datagram_to_all source_port destination_port payload in
    let some = some_frame server_station ethernet_broadcast 64 datagram refl refl in
    let size = length-frame server_station ethernet_broadcast 64 datagram some.0 refl refl refl refl some.1 in
    record {
      arrival = Frame some.0;
      brings = record { frame = some.0; is = refl; sent = some.1 };
      is = omega (arith, size, short);
      rest = to_be_bytes w16 (length some.0) ++ some.0;
      spelled = (refl, refl);
    }

length-response : (words : EventWords) → length (response_bytes (request_by words)) ≡ 46
unfolding response_bytes
length-response words = refl

length-told : length told_frame ≡ 42
unfolding arp_bytes arp_frame_bytes ethernet_bytes
length-told = refl

brought : (words : List ℕ) (round : ℕ) (turn : Turn) → Brought words round turn
brought words round Starts = record { arrival = Reset; brings = refl; is = tt; kind = 4; rest = []; spelled = (refl, refl) }
brought words round Offers =
    let frame = frame_of 67 68 (grant_datagram Offer (words_of_start words round).first).payload (omega (arith, grant_size Offer (words_of_start words round).first)) in
    record { arrival = frame.arrival; brings = frame.brings; is = frame.is; kind = 1; rest = frame.rest; spelled = frame.spelled }
brought words round Grants =
    let frame = frame_of 67 68 (grant_datagram Ack (words_of_start words round).first).payload (omega (arith, grant_size Ack (words_of_start words round).first)) in
    record { arrival = frame.arrival; brings = frame.brings; is = frame.is; kind = 1; rest = frame.rest; spelled = frame.spelled }
brought words round Tells = record {
  arrival = Frame told_frame;
  brings = refl;
  is = omega (arith, length-told);
  kind = 1;
  rest = to_be_bytes w16 (length told_frame) ++ told_frame;
  spelled = (refl, refl);
}
brought words round Asks = record {
  arrival = Query A asked_name;
  brings = refl;
  is = (inl refl, (omega arith, asked_utf8));
  kind = 3;
  rest = name_part asked_name;
  spelled = inl (refl, refl, refl);
}
brought words round Answers =
    let request = request_by (words_of_asking words round) in
    let frame = frame_of 53 request.port (response_bytes request) (omega (arith, length-response (words_of_asking words round))) in
    record { arrival = frame.arrival; brings = frame.brings; is = frame.is; kind = 1; rest = frame.rest; spelled = frame.spelled }
brought words round Waits = record { arrival = Tick; brings = refl; is = tt; kind = 2; rest = []; spelled = (refl, refl) }

gained : (words : List ℕ) (place : ℕ) (old : List ℕ) → (new : List ℕ) × GainsMade words place old new
gained words place old =
    let one = brought words (place / 100) (turn_in (place / 100) (place % 100)) in
    let front = head_with one.kind (place * 1000000) ++ one.rest in (
      old ++ front,
      record {
        event = record { at = place * 1000000; arrival = one.arrival };
        made = record { at = refl; brings = one.brings };
        arrival = one.is;
        gains = record {
          front = front;
          spelled = record { kind = one.kind; rest = one.rest; brings = one.spelled; whole = refl };
          grown = refl;
        };
      },
    )

pub makes_some : MakesSome
makes_some words zero short = ([], none_made words)
makes_some words (suc count) short =
    let some = makes_some words count (omega (arith, short)) in
    let more = gained words count some.0 in
    (more.0, subst (λ n. IsMadeScript words n more.0) (omega arith) (script_grows words count some.0 more.0 (omega (arith, short)) some.1 more.1))
