-- The lowest free address, and a full range.
use Rattle.std.proofs.Common.{◌≡◌, ℕ, zero, suc, ◌+◌, ◌<◌, ◌≤◌, Bool, true, false, cond, ◌||◌, List, [], ◌∷◌, Option, Some, None, refl, sym, ap, ◌∙◌, arith, nat_eq}
use Rattle.std.specs.List.{list_any}
use Rattle.std.proofs.lemmas.Nat.{from_be_bytes-to_be_bytes_4}
use Rattle.std.proofs.lemmas.Bool.{eqb-true, eqb-false}
use Rattle.managed.proofs.OrderLemmas.{by_test}
use Rattle.net_wire.specs.declared.address.Ipv4Address.{Ipv4Address}
use Rattle.net_wire.specs.declared.dhcp.DhcpMessageType.{DhcpMessageType}
use Rattle.net_wire.specs.declared.dhcp.DhcpMessageType.TheVariants as kind
use Rattle.net_wire.specs.DhcpMessage.{Message}
use Rattle.lease_server.specs.declared.reply.Reply.{Reply}
use Rattle.lease_server.specs.declared.reply.Reply.TheVariants as reply
use Rattle.lease_server.specs.declared.reply.Silence.{Silence}
use Rattle.lease_server.specs.declared.reply.Silence.TheVariants as silence
use Rattle.lease_server.specs.Values.{Values, number_of, address_of, first_number}
use Rattle.lease_server.specs.Holdings.{holds_number, holds_it}
use Rattle.lease_server.specs.Replies.{is_of_range, first_free, lowest_free, discover_reply, selected_reply, renewal_reply, renewed, request_reply, release_reply, reply_by}
use Rattle.lease_server.specs.State.{holding}
use Rattle.lease_server.specs.Laws.{FreeIsLowest, AreAllTaken, FullIsExact, TakenIsHeld}
use Rattle.lease_server.proofs.GiveLemmas.{is_free, taken_by, same_address}
use Rattle.lease_server.proofs.TestLemmas.{of_range, count_parts, true_false, none_some}

-- ---- the lowest free address
lower_taken : (taken : ℕ → Bool) (first count : ℕ) (address : Ipv4Address) → first + count ≤ 4294967296 → first_free taken first count ≡ Some address
    → (number : ℕ) → first ≤ number → number < number_of address → taken number ≡ true
lower_taken taken first zero address fits found number from below = absurd (none_some address found)
lower_taken taken first (suc count) address fits found number from below = by_test (taken first)
    (λ hit. by_test (nat_eq number first)
    (λ same. ap taken (eqb-true number first same) ∙ hit)
    (λ other. lower_taken taken (first + 1) count address (omega arith)
    (sym (ap (λ (b : Bool). cond b (first_free taken (first + 1) count) (Some (address_of first))) hit) ∙ found)
    number (omega (arith, eqb-false number first other)) below))
    (λ miss. let it = same_address (address_of first) address (sym (ap (λ (b : Bool). cond b (first_free taken (first + 1) count) (Some (address_of first))) miss) ∙ found) in
    let lowest : number_of address ≡ first = sym (ap number_of it) ∙ from_be_bytes-to_be_bytes_4 first (omega arith) in
    absurd (omega (arith, lowest, from, below)))

pub free_is_lowest : FreeIsLowest
free_is_lowest values taken address checked found =
    let fits = (count_parts values checked).fits in
    let free = is_free taken (first_number values) values.count address fits found in
    record {
      within = of_range values address (record { from = free.from; below = free.below });
      free = free.free;
      lowest = lower_taken taken (first_number values) values.count address fits found;
    }

-- ---- a full range
none_free : (taken : ℕ → Bool) (first count : ℕ) → first_free taken first count ≡ None
    → (number : ℕ) → first ≤ number → number < first + count → taken number ≡ true
none_free taken first zero none number from below = absurd (omega arith)
none_free taken first (suc count) none number from below = by_test (taken first)
    (λ hit. by_test (nat_eq number first)
    (λ same. ap taken (eqb-true number first same) ∙ hit)
    (λ other. none_free taken (first + 1) count
    (sym (ap (λ (b : Bool). cond b (first_free taken (first + 1) count) (Some (address_of first))) hit) ∙ none)
    number (omega (arith, eqb-false number first other)) (omega arith)))
    (λ miss. absurd (none_some (address_of first) (sym none ∙ ap (λ (b : Bool). cond b (first_free taken (first + 1) count) (Some (address_of first))) miss)))

all_taken : (taken : ℕ → Bool) (first count : ℕ) → ((number : ℕ) → first ≤ number → number < first + count → taken number ≡ true)
    → first_free taken first count ≡ None
all_taken taken first zero all = refl
all_taken taken first (suc count) all =
    ap (λ (b : Bool). cond b (first_free taken (first + 1) count) (Some (address_of first))) (all first (omega arith) (omega arith))
    ∙ all_taken taken (first + 1) count (λ number from below. all number (omega arith) (omega arith))

-- which replies are `Full`
abbrev is_full_silence : Silence → Bool
is_full_silence silence.Full = true
is_full_silence silence.Unwanted = false
is_full_silence silence.Other = false
is_full_silence silence.Foreign = false
is_full_silence silence.Released = false
is_full_silence silence.Stale = false

abbrev is_full : Reply → Bool
is_full (reply.Silent why) = is_full_silence why
is_full (reply.Offer address) = false
is_full (reply.Ack address) = false
is_full reply.Nak = false

never : (what : Reply) {P : Type 0} → is_full what ≡ false → what ≡ reply.Silent silence.Full → P
never what differs full = absurd (true_false (is_full what) (ap is_full full) differs)

either : (b : Bool) (one other : Reply) → is_full one ≡ false → is_full other ≡ false → is_full (cond b one other) ≡ false
either true one other p q = p
either false one other p q = q

selected : (mine asked : Option Ipv4Address) → is_full (selected_reply mine asked) ≡ false
selected mine None = refl
selected mine (Some it) = either (holds_it mine it) (reply.Ack it) reply.Nak refl refl

renewal : (values : Values) (mine asked : Option Ipv4Address) → is_full (renewal_reply values mine asked) ≡ false
renewal values mine None = refl
renewal values mine (Some it) = either (holds_it mine it) (reply.Ack it) (cond (is_of_range values it) reply.Nak (reply.Silent silence.Foreign)) refl
    (either (is_of_range values it) reply.Nak (reply.Silent silence.Foreign) refl refl)

request : (values : Values) (mine : Option Ipv4Address) (message : Message) (server : Option Ipv4Address) → is_full (request_reply values mine message server) ≡ false
request values mine message None = renewal values mine (renewed message)
request values mine message (Some server) =
    either (nat_eq (number_of server) (number_of values.address)) (selected_reply mine message.requested_ip) (reply.Silent silence.Other)
    (selected mine message.requested_ip) refl

release : (mine : Option Ipv4Address) (address : Ipv4Address) → is_full (release_reply mine address) ≡ false
release mine address = either (holds_it mine address) (reply.Silent silence.Released) (reply.Silent silence.Stale) refl refl

abbrev IsFullAt : Values → Option Ipv4Address → (ℕ → Bool) → DhcpMessageType → Type 0
IsFullAt values mine taken type = (type ≡ kind.Discover) × (mine ≡ None) × AreAllTaken values taken

to_discover : (values : Values) (mine : Option Ipv4Address) (taken : ℕ → Bool) (free : Option Ipv4Address) → lowest_free values taken ≡ free
    → discover_reply mine free ≡ reply.Silent silence.Full → IsFullAt values mine taken kind.Discover
to_discover values (Some it) taken free is full = never (discover_reply (Some it) free) refl full
to_discover values None taken (Some it) is full = never (discover_reply None (Some it)) refl full
to_discover values None taken None is full = (refl, refl, none_free taken (first_number values) values.count is)

full_means : (values : Values) (mine : Option Ipv4Address) (taken : ℕ → Bool) (message : Message) (type : DhcpMessageType)
    → reply_by values mine (lowest_free values taken) message type ≡ reply.Silent silence.Full → IsFullAt values mine taken type
full_means values mine taken message kind.Discover full = to_discover values mine taken (lowest_free values taken) refl full
full_means values mine taken message kind.Request full =
    never (request_reply values mine message message.server_identifier) (request values mine message message.server_identifier) full
full_means values mine taken message kind.Release full = never (release_reply mine message.client_ip) (release mine message.client_ip) full
full_means values mine taken message kind.Offer full = never (reply.Silent silence.Unwanted) refl full
full_means values mine taken message kind.Decline full = never (reply.Silent silence.Unwanted) refl full
full_means values mine taken message kind.Ack full = never (reply.Silent silence.Unwanted) refl full
full_means values mine taken message kind.Nak full = never (reply.Silent silence.Unwanted) refl full
full_means values mine taken message kind.Inform full = never (reply.Silent silence.Unwanted) refl full
full_means values mine taken message (kind.Unknown number) full = never (reply.Silent silence.Unwanted) refl full

pub full_is_exact : FullIsExact
full_is_exact values mine taken message = (
  (λ full. full_means values mine taken message message.message_type full),
  (λ at. ap (reply_by values mine (lowest_free values taken) message) at.0
      ∙ ap (λ (held : Option Ipv4Address). discover_reply held (lowest_free values taken)) at.1
      ∙ ap (discover_reply None) (all_taken taken (first_number values) values.count at.2)),
)

-- ---- what is taken
pub any_gives : {X : Type 0} (test : X → Bool) (xs : List X) → list_any test xs ≡ true → (x : X) × (test x ≡ true)
any_gives test [] is = absurd (true_false false is refl)
any_gives test (x ∷ xs) is = by_test (test x)
    (λ hit. (x, hit))
    (λ miss. any_gives test xs (sym (ap (λ (b : Bool). b || list_any test xs) miss) ∙ is))

pub taken_is_held : TakenIsHeld
taken_is_held holders at number = (
  (λ taken. let found = any_gives (λ holder. holds_number (holding holders holder.0 at) number) holders taken in (found.0.0, found.1)),
  (λ held. taken_by holders held.0 at number held.1),
)
