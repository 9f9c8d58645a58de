-- What stands behind the head of an event.
use Rattle.std.proofs.Common.{◌≡◌, ℕ, ◌+◌, ◌≤◌, inr, List, ◌++◌, length, take, Option, drop, leb, false, ap, sym, subst, ◌∙◌, refl, arith, length-append}
use Rattle.std.specs.Int.{to_be_bytes, w16}
use Rattle.std.proofs.KnownBytes.{Consumes-trans}
use Rattle.std.proofs.lemmas.Bool.Decides.{nat_tests}
use Rattle.std.proofs.lemmas.List.{take-take, take-append-le}
use Rattle.net_wire.specs.declared.dns.dns_type.DnsType.{DnsType}
use Rattle.net_wire.specs.DnsMessage.{type_number}
use Rattle.host_model.specs.Script.{head_with, name_part}
use Rattle.script_reader.specs.declared.script.EventHead.{EventHead}
use Rattle.script_reader.specs.declared.script.EventKind.TheVariants as kind
use Rattle.script_reader.specs.declared.script.HeadParts.{HeadParts}
use Rattle.script_reader.specs.declared.script.KindByte.TheVariants as kinds
use Rattle.script_reader.specs.declared.script.RestParts.{RestParts}
use Rattle.script_reader.specs.Head.{byte_of, GivesHead, GivesType, GivesName, GivesRest}
use Rattle.script_reader.specs.ReaderState.{ReaderState, moved_by}
use Rattle.script_reader.specs.Reading.{event_with, GivesNext}

-- what is known of an event whose head was read, and what stands behind it
abbrev head_of : HeadParts → RestParts → EventHead
head_of head rest = record { kind = rest.kind; micros = head.micros }

-- a head and what stands behind it are the next event
pub next_by : (max : ℕ) (old : ReaderState) (left_old left_mid left_new : Option (List ℕ)) (head : HeadParts) (rest : RestParts)
    (into found : List ℕ) (count : ℕ) → leb max old.events ≡ false → GivesHead old.last left_old left_mid head
    → (gives : GivesRest head.kind left_mid left_new into rest) → found ≡ take rest.len into → count ≡ length gives.bytes
    → GivesNext max old (moved_by max (9 + count) head.micros found old) left_old left_new (event_with (head_of head rest) found)
next_by max old left_old left_mid left_new head rest into found count goes_on begins gives is_found is_count =
    let front = head_with (byte_of head.kind) head.micros in
    let brought = take rest.len into in
    let P : List ℕ → Type 0 = λ l.
    GivesNext max old (moved_by max (9 + count) head.micros l old) left_old left_new (event_with (head_of head rest) l) in
    subst P (sym is_found) (record {
      front = front ++ gives.bytes;
      within = grind (arith, nat_tests, goes_on);
      next = record { not_before = begins.right.0; in_range = begins.right.1; arrival = gives.arrival };
      spelled = record { kind = byte_of head.kind; rest = gives.bytes; brings = gives.brings; whole = refl };
      took = Consumes-trans left_old left_mid left_new front gives.bytes begins.took gives.took;
      moved = ap (λ n. moved_by max n head.micros brought old) (ap (λ k. 9 + k) is_count ∙ sym (length-append front gives.bytes));
    })

-- the bytes that stand in front of a buffer
pub front_is : (into items : List ℕ) (room len : ℕ) → length into ≡ room → len ≤ length into
    → take len (take room (into ++ drop (length into) items)) ≡ take len into
front_is into items room len is_room within =
    take-take len room (into ++ drop (length into) items) (omega (arith, is_room, within))
    ∙ take-append-le len into (drop (length into) items) within

-- a type and a name stand behind the head of a query
pub typed_query : (left_old left_mid left_new : Option (List ℕ)) (query_type : DnsType) (into : List ℕ) (len : ℕ)
    → GivesType left_old left_mid query_type → GivesName left_mid left_new into len
    → GivesRest kinds.TypedQuery left_old left_new into (record { kind = kind.Query query_type; len = len })
typed_query left_old left_mid left_new query_type into len typed gives =
    let number = to_be_bytes w16 (type_number query_type) in
    record {
      bytes = number ++ name_part (take len into);
      within = gives.within;
      arrival = (typed.asked, gives.is_name);
      brings = inr (refl, refl);
      took = Consumes-trans left_old left_mid left_new number (name_part (take len into)) typed.took gives.took;
    }
