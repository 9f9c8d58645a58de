-- The event that is appended is the one that the words make.
use Rattle.std.proofs.Common.{◌≡◌, ℕ, ◌*◌, ◌/◌, ◌%◌, ◌<◌, ◌^◌, zero, suc, List, [], ◌∷◌, length, Result, Ok, Err, refl, sym, subst, inl, arith, rules}
use Rattle.std.specs.Prelude.{◌==◌, if◌then◌else◌}
use Rattle.std.specs.List.{AllByRecursion}
use Rattle.std.specs.Result.{OnOk}
use Rattle.std.specs.Str.{IsAscii, IsUtf8}
use Rattle.std.proofs.lemmas.Str.{IsUtf8-from_ascii}
use Rattle.net_wire.specs.declared.dns.dns_type.DnsType.TheVariants.{A}
use Rattle.net_wire.specs.Datagram.{Datagram}
use Rattle.host_model.specs.Script.{Frame, Query}
use Rattle.made_script.specs.Growing.{Gains, GainsMade}
use Rattle.made_script.specs.Made.{Answers, Waits, turn_in, words_of_asking, Brings, BringsDatagram}
use Rattle.made_script.specs.Server.{IsFromServer, asked_name, request_by, response_datagram}

pub on_ok : {T E P Q : Type 0} (result : Result T E) → (P → Q) → OnOk result P → OnOk result Q
on_ok (Ok value) f is = f is
on_ok (Err error) f is = is

-- a frame of the server
pub made_frame : (words : List ℕ) (place in_round : ℕ) (old new frame : List ℕ) (datagram : Datagram) → place % 100 ≡ in_round
    → (BringsDatagram datagram (Frame frame) → Brings words (place / 100) (turn_in (place / 100) in_round) (Frame frame))
    → IsFromServer datagram frame → length frame < 2 ^ 16
    → Gains (record { at = place * 1000000; arrival = Frame frame }) old new → GainsMade words place old new
made_frame words place in_round old new frame datagram is brings sent short gains =
    let P : ℕ → Type 0 = λ n. Brings words (place / 100) (turn_in (place / 100) n) (Frame frame) in
    record {
      event = record { at = place * 1000000; arrival = Frame frame };
      made = record { at = refl; brings = subst P (sym is) (brings (record { frame = frame; is = refl; sent = sent })) };
      arrival = short;
      gains = gains;
    }

ascii_below : (bytes : List ℕ) → AllByRecursion (λ byte. byte < 128) bytes → IsAscii bytes
ascii_below [] all i = omega arith
ascii_below (byte ∷ bytes) all zero = all.0
ascii_below (byte ∷ bytes) all (suc i) = ascii_below bytes all.1 i

pub asked_utf8 : IsUtf8 asked_name
asked_utf8 = IsUtf8-from_ascii asked_name (ascii_below asked_name (search rules))

-- the query
pub made_query : (words : List ℕ) (place : ℕ) (old new : List ℕ) → place % 100 ≡ 4
    → Gains (record { at = place * 1000000; arrival = Query A asked_name }) old new → GainsMade words place old new
made_query words place old new four gains = record {
  event = record { at = place * 1000000; arrival = Query A asked_name };
  made = record { at = refl; brings = rw four refl };
  arrival = (inl refl, (omega arith, asked_utf8));
  gains = gains;
}

-- the response of an odd round
pub answers : (words : List ℕ) (round : ℕ) (frame : List ℕ) → round % 2 ≡ 1
    → BringsDatagram (response_datagram (request_by (words_of_asking words round))) (Frame frame)
    → Brings words round (turn_in round 5) (Frame frame)
answers words round frame odd brings =
    let P : ℕ → Type 0 = λ n. Brings words round (if n == 1 then Answers else Waits) (Frame frame) in
    subst P (sym odd) brings
