-- The words make one list of events: each event brings one thing.
use Rattle.std.proofs.Common.{◌≡◌, ℕ, ◌+◌, ◌/◌, ◌%◌, List, [], ◌∷◌, length, refl, sym, ap, ap₂, ◌∙◌, arith}
use Rattle.net_wire.proofs.SentFrameLemmas.{one_sent_frame}
use Rattle.host_model.specs.Neighbor.{ethernet_broadcast}
use Rattle.host_model.specs.Script.{Arrival, Frame, Event}
use Rattle.made_script.specs.Made.{Turn, Starts, Offers, Grants, Tells, Asks, Answers, Waits, turn_in, Brings, BringsDatagram, IsMadeAt, AreMadeFrom, MakesOne}
use Rattle.made_script.specs.Server.{datagram_to_all, server_station}

one_datagram : (source_port destination_port : ℕ) (payload : List ℕ) (one other : Arrival)
    → BringsDatagram (datagram_to_all source_port destination_port payload) one
    → BringsDatagram (datagram_to_all source_port destination_port payload) other → one ≡ other
one_datagram source_port destination_port payload one other is other_is =
    let same = one_sent_frame server_station ethernet_broadcast 64 (datagram_to_all source_port destination_port payload) refl refl is.frame other_is.frame is.sent other_is.sent in
    is.is ∙ ap Frame same ∙ sym other_is.is

one_arrival : (words : List ℕ) (round : ℕ) (turn : Turn) (one other : Arrival) → Brings words round turn one → Brings words round turn other
    → one ≡ other
one_arrival words round Starts one other is other_is = is ∙ sym other_is
one_arrival words round Offers one other is other_is = one_datagram _ _ _ one other is other_is
one_arrival words round Grants one other is other_is = one_datagram _ _ _ one other is other_is
one_arrival words round Tells one other is other_is = is ∙ sym other_is
one_arrival words round Asks one other is other_is = is ∙ sym other_is
one_arrival words round Answers one other is other_is = one_datagram _ _ _ one other is other_is
one_arrival words round Waits one other is other_is = is ∙ sym other_is

one_event : (words : List ℕ) (place : ℕ) (one other : Event) → IsMadeAt words place one → IsMadeAt words place other → one ≡ other
one_event words place one other is other_is =
    ap₂ (λ at arrival. record { at = at; arrival = arrival }) (is.at ∙ sym other_is.at)
    (one_arrival words (place / 100) (turn_in (place / 100) (place % 100)) one.arrival other.arrival is.brings other_is.brings)

ones_from : (words : List ℕ) (place : ℕ) (one other : List Event) → length one ≡ length other → AreMadeFrom words place one
    → AreMadeFrom words place other → one ≡ other
ones_from words place [] [] long made other_made = refl
ones_from words place [] (first ∷ other) long made other_made = absurd (omega (arith, long))
ones_from words place (first ∷ one) [] long made other_made = absurd (omega (arith, long))
ones_from words place (first ∷ one) (other_first ∷ other) long made other_made =
    ap₂ (λ event events. event ∷ events) (one_event words place first other_first made.0 other_made.0)
    (ones_from words (place + 1) one other (omega (arith, long)) made.1 other_made.1)

pub makes_one : MakesOne
makes_one words count one other made other_made = ones_from words 0 one other (made.many ∙ sym other_made.many) made.each other_made.each
