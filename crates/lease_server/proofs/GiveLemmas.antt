-- Who may be given what.
use Rattle.std.proofs.Common.{◌≡◌, ◌⊎◌, ℕ, zero, suc, ◌+◌, ◌*◌, ◌<◌, ◌≤◌, Bool, true, false, cond, ◌||◌, List, [], ◌∷◌, Option, Some, None, refl, sym, ap, ◌∙◌, inl, inr, ⊎_elim, arith, nat_eq, nat_lt, lit<}
use Rattle.std.specs.Option.{option_map}
use Rattle.std.specs.List.{list_any}
use Rattle.std.specs.Ordering.{is_eq}
use Rattle.std.proofs.lemmas.Nat.{from_be_bytes-to_be_bytes_4}
use Rattle.std.proofs.lemmas.Bool.{eqb-true, eqb-false, eq-eqb, lt-ltb, le-ltb, ltb-false}
use Rattle.managed.specs.declared.slot_key.SlotKey.{SlotKey}
use Rattle.managed.specs.SlotTable.{SlotUse}
use Rattle.managed.specs.SortedMap.{value_at}
use Rattle.managed.proofs.OrderLemmas.{by_test}
use Rattle.net_wire.specs.declared.address.EthernetAddress.{EthernetAddress}
use Rattle.net_wire.specs.declared.address.Ipv4Address.{Ipv4Address}
use Rattle.net_wire.specs.declared.dhcp.DhcpMessageType.{DhcpMessageType}
use Rattle.net_wire.specs.declared.dhcp.DhcpMessageType.TheVariants as kind
use Rattle.net_wire.specs.DhcpMessage.{Message}
use Rattle.lease_server.specs.declared.lease.Lease.{Lease}
use Rattle.lease_server.specs.declared.reply.Reply.{Reply}
use Rattle.lease_server.specs.declared.reply.Reply.TheVariants as reply
use Rattle.lease_server.specs.declared.reply.Silence.TheVariants as silence
use Rattle.lease_server.specs.Values.{Values, number_of, address_of, first_number, refused}
use Rattle.lease_server.specs.Holdings.{same_hardware, holds_number, holds_it, held_up_to, held_after_reply}
use Rattle.lease_server.specs.Replies.{is_of_range, first_free, lowest_free, discover_reply, selected_reply, renewal_reply, renewed, request_reply, reply_by, reply_to}
use Rattle.lease_server.specs.State.{Held, Holders, IsFair, held_at, hardware_cmp, holding, is_taken, given}
use Rattle.lease_server.specs.Holders.{AreHolders, CanHold, IsOwner, Keys, lease_at, held_under, holders_in, stores, has_number}
use Rattle.lease_server.proofs.HolderLemmas.{found_under}
use Rattle.lease_server.proofs.TestLemmas.{in_range, of_range, count_parts, true_false, none_some, keys_tie, same_client, itself, accepted}

-- ---- who has a number has it under a key
stored_by : {P : Type 0} (leases : List Lease) (found : Option SlotKey) (number : ℕ)
    → has_number (option_map (held_under leases) found) number ≡ true
    → ((key : SlotKey) → found ≡ Some key → number_of (lease_at leases key.place).address ≡ number → P) → P
stored_by leases None number is use_it = absurd (true_false false is refl)
stored_by leases (Some key) number is use_it = use_it key refl (eqb-true (number_of (lease_at leases key.place).address) number is)

module _ (values : Values) (keys : Keys) (leases : List Lease) (table : SlotUse) (holders : AreHolders values keys leases table) where
  by_stored : {P : Type 0} (client : EthernetAddress) (number : ℕ) → stores (holders_in keys leases) client number ≡ true
      → ((key : SlotKey) → value_at hardware_cmp keys client ≡ Some key → number_of (lease_at leases key.place).address ≡ number → P) → P
  by_stored client number is use_it = stored_by leases (value_at hardware_cmp keys client) number
      (sym (ap (λ (o : Option Held). has_number o number) (found_under keys leases client)) ∙ is) use_it

  pub only_one : (one other : EthernetAddress) (number : ℕ) → stores (holders_in keys leases) one number ≡ true
      → stores (holders_in keys leases) other number ≡ true → one ≡ other
  only_one one other number has its =
      by_stored one number has (λ key found is. by_stored other number its (λ third its_found its_is.
      holders.apart one other key third found its_found (is ∙ sym its_is)))

  pub stored_within : (client : EthernetAddress) (address : Ipv4Address) → stores (holders_in keys leases) client (number_of address) ≡ true
      → is_of_range values address ≡ true
  stored_within client address has = by_stored client (number_of address) has (λ key found is.
      let range = in_range values (lease_at leases key.place).address (holders.placed client key found) in
      of_range values address (record { from = omega (arith, range.from, is); below = omega (arith, range.below, is) }))

pub owns : (values : Values) (keys : Keys) (leases : List Lease) (table : SlotUse) (number : ℕ) (client : EthernetAddress)
    → AreHolders values keys leases table → stores (holders_in keys leases) client number ≡ true → IsOwner (holders_in keys leases) number client
owns values keys leases table number client holders has =
    record { has = has; only = λ other its. only_one values keys leases table holders other client number its has }

-- what is over stays over
some_none : {X : Type 0} (x : X) → Some x ≡ None → ⊥
some_none x clash = absurd (cc)

ended_by : (o : Option Held) (now : ℕ) → held_at now o ≡ None → (held : Held) → o ≡ Some held → held.until ≤ now
ended_by None now ended held is = absurd (none_some held is)
ended_by (Some it) now ended held is = by_test (nat_lt now it.until)
    (λ hit. absurd (some_none it.address (sym (ap (λ (b : Bool). cond b (Some it.address) None) hit) ∙ ended)))
    (λ miss. let same : it ≡ held = cc in let until = ap (λ (h : Held). h.until) same in omega (arith, ltb-false now it.until miss, until))

still_ended : (o : Option Held) (now at : ℕ) → now ≤ at → held_at now o ≡ None → held_at at o ≡ None
still_ended None now at later ended = refl
still_ended (Some held) now at later ended = rw (le-ltb at held.until (omega (arith, ended_by (Some held) now ended held refl))) refl

-- ---- after another client that has the address is taken out
taken_out : (same : Bool) (old : Option Held) (number : ℕ) → has_number (cond same None old) number ≡ true → (same ≡ false) × (has_number old number ≡ true)
taken_out true old number has = absurd (true_false false has refl)
taken_out false old number has = (refl, has)

module _ (old new : Holders) (owner : EthernetAddress) (number : ℕ) (owns_it : IsOwner old number owner)
    (evicted : (other : EthernetAddress) → value_at hardware_cmp new other ≡ cond (same_hardware owner other) None (value_at hardware_cmp old other)) where
  pub nobody_left : (other : EthernetAddress) → stores new other number ≡ true → ⊥
  nobody_left other has =
      let parts = taken_out (same_hardware owner other) (value_at hardware_cmp old other) number
      (sym (ap (λ (o : Option Held). has_number o number) (evicted other)) ∙ has) in
      true_false (same_hardware owner other)
      (ap (λ (o : EthernetAddress). same_hardware owner o) (owns_it.only other parts.1) ∙ itself owner) parts.0

  pub mine_kept : (client : EthernetAddress) → same_hardware owner client ≡ false → value_at hardware_cmp new client ≡ value_at hardware_cmp old client
  mine_kept client apart = evicted client ∙ rw apart refl

  pub others_kept : (values : Values) (now : ℕ) (client : EthernetAddress) (address : Ipv4Address) → number_of address ≡ number → CanHold values old now client address
      → same_hardware owner client ≡ false → (other : EthernetAddress) (at : ℕ) → now ≤ at → holding new other at ≡ holding old other at
  others_kept values now client address is can apart other at later = by_test (same_hardware owner other)
      (λ hit. ap (held_at at) (evicted other ∙ ap (λ (b : Bool). cond b None (value_at hardware_cmp old other)) hit)
      ∙ sym (ap (λ (o : EthernetAddress). holding old o at) (sym (same_client owner other hit))
      ∙ ⊎_elim
      (λ same. absurd (true_false (same_hardware owner client) (ap (λ (o : EthernetAddress). same_hardware owner o) (sym same) ∙ itself owner) apart))
      (λ ended. still_ended (value_at hardware_cmp old owner) now at later ended)
      (can.free owner (ap (stores old owner) is ∙ owns_it.has))))
      (λ miss. ap (held_at at) (mine_kept other miss))

-- ---- what is held is had
held_stored : (o : Option Held) (at number : ℕ) → holds_number (held_at at o) number ≡ true → has_number o number ≡ true
held_stored None at number holds = absurd (true_false false holds refl)
held_stored (Some held) at number holds = by_test (nat_lt at held.until)
    (λ hit. sym (ap (λ (b : Bool). holds_number (cond b (Some held.address) None) number) hit) ∙ holds)
    (λ miss. absurd (true_false false (sym (ap (λ (b : Bool). holds_number (cond b (Some held.address) None) number) miss) ∙ holds) refl))

holds_own : (held : Option Ipv4Address) (address : Ipv4Address) → held ≡ Some address → holds_number held (number_of address) ≡ true
holds_own held address is = ap (λ (o : Option Ipv4Address). holds_number o (number_of address)) is ∙ eq-eqb (number_of address) (number_of address) refl

is_there : (o : Option Held) (at number : ℕ) → holds_number (held_at at o) number ≡ true → (held : Held) × (o ≡ Some held)
is_there None at number holds = absurd (true_false false holds refl)
is_there (Some held) at number holds = (held, refl)

pub or_right : (a b : Bool) → b ≡ true → a || b ≡ true
or_right true b is = refl
or_right false b is = is

any_client : (test : EthernetAddress → Bool) (holders : Holders) (client : EthernetAddress) (held : Held) → value_at hardware_cmp holders client ≡ Some held
    → test client ≡ true → list_any (λ holder. test holder.0) holders ≡ true
any_client test [] client held found is = absurd (none_some held found)
any_client test (holder ∷ rest) client held found is = by_test (is_eq (hardware_cmp client holder.0))
    (λ hit. let here : test holder.0 ≡ true = ap test (sym (same_client client holder.0 (sym (keys_tie client holder.0) ∙ hit))) ∙ is in
    ap (λ (b : Bool). b || list_any (λ holder. test holder.0) rest) here)
    (λ miss. or_right (test holder.0) (list_any (λ holder. test holder.0) rest)
    (any_client test rest client held (sym (ap (λ (b : Bool). cond b (Some holder.1) (value_at hardware_cmp rest client)) miss) ∙ found) is))

pub taken_by : (holders : Holders) (client : EthernetAddress) (at number : ℕ) → holds_number (holding holders client at) number ≡ true
    → is_taken holders at number ≡ true
taken_by holders client at number holds =
    let there = is_there (value_at hardware_cmp holders client) at number holds in
    any_client (λ c. holds_number (holding holders c at) number) holders client there.0 there.1 holds

-- ---- the lowest free address
pub record IsFree (taken : ℕ → Bool) (first count : ℕ) (address : Ipv4Address) : Type 0 where
  pub from : first ≤ number_of address
  pub below : number_of address < first + count
  pub free : taken (number_of address) ≡ false

pub same_address : (one other : Ipv4Address) → Some one ≡ Some other → one ≡ other
same_address one other same = cc

pub is_free : (taken : ℕ → Bool) (first count : ℕ) (address : Ipv4Address) → first + count ≤ 4294967296 → first_free taken first count ≡ Some address
    → IsFree taken first count address
is_free taken first zero address fits found = absurd (none_some address found)
is_free taken first (suc count) address fits found = by_test (taken first)
    (λ hit. let rest = is_free taken (first + 1) count address (omega arith)
    (sym (ap (λ (b : Bool). cond b (first_free taken (first + 1) count) (Some (address_of first))) hit) ∙ found) in
    record { from = omega (arith, rest.from); below = omega (arith, rest.below); free = rest.free })
    (λ miss. let it = same_address (address_of first) address (sym (ap (λ (b : Bool). cond b (first_free taken (first + 1) count) (Some (address_of first))) miss) ∙ found) in
    let number : number_of address ≡ first = sym (ap number_of it) ∙ from_be_bytes-to_be_bytes_4 first (omega arith) in
    record { from = omega (arith, number); below = omega (arith, number); free = ap taken number ∙ miss })

-- ---- what a reply gives: what its client holds, or the lowest free address
abbrev Gives : Option Ipv4Address → Option Ipv4Address → Ipv4Address → Type 0
Gives mine free address = (holds_it mine address ≡ true) ⊎ (free ≡ Some address)

gives_discover : (mine free : Option Ipv4Address) (address : Ipv4Address) → given (discover_reply mine free) ≡ Some address → Gives mine free address
gives_discover (Some it) free address is = inl (holds_own (Some it) address is)
gives_discover None (Some it) address is = inr is
gives_discover None None address is = absurd (none_some address is)

acks : (mine : Option Ipv4Address) (it : Ipv4Address) (other : Reply) (address : Ipv4Address) → given other ≡ None
    → given (cond (holds_it mine it) (reply.Ack it) other) ≡ Some address → holds_it mine address ≡ true
acks mine it other address silent is = by_test (holds_it mine it)
    (λ hit. ap (holds_it mine) (sym (same_address it address (sym (ap (λ (b : Bool). given (cond b (reply.Ack it) other)) hit) ∙ is))) ∙ hit)
    (λ miss. absurd (none_some address (sym silent ∙ sym (ap (λ (b : Bool). given (cond b (reply.Ack it) other)) miss) ∙ is)))

gives_selected : (mine asked : Option Ipv4Address) (address : Ipv4Address) → given (selected_reply mine asked) ≡ Some address → holds_it mine address ≡ true
gives_selected mine None address is = absurd (none_some address is)
gives_selected mine (Some it) address is = acks mine it reply.Nak address refl is

gives_none : (b : Bool) → given (cond b reply.Nak (reply.Silent silence.Foreign)) ≡ None
gives_none true = refl
gives_none false = refl

gives_renewal : (values : Values) (mine asked : Option Ipv4Address) (address : Ipv4Address) → given (renewal_reply values mine asked) ≡ Some address
    → holds_it mine address ≡ true
gives_renewal values mine None address is = absurd (none_some address is)
gives_renewal values mine (Some it) address is =
    acks mine it (cond (is_of_range values it) reply.Nak (reply.Silent silence.Foreign)) address (gives_none (is_of_range values it)) is

selects : (mine asked : Option Ipv4Address) (address : Ipv4Address) (b : Bool) → given (cond b (selected_reply mine asked) (reply.Silent silence.Other)) ≡ Some address
    → holds_it mine address ≡ true
selects mine asked address true is = gives_selected mine asked address is
selects mine asked address false is = absurd (none_some address is)

gives_request : (values : Values) (mine : Option Ipv4Address) (message : Message) (server : Option Ipv4Address) (address : Ipv4Address)
    → given (request_reply values mine message server) ≡ Some address → holds_it mine address ≡ true
gives_request values mine message None address is = gives_renewal values mine (renewed message) address is
gives_request values mine message (Some server) address is =
    selects mine message.requested_ip address (nat_eq (number_of server) (number_of values.address)) is

releases : (b : Bool) → given (cond b (reply.Silent silence.Released) (reply.Silent silence.Stale)) ≡ None
releases true = refl
releases false = refl

gives : (values : Values) (mine free : Option Ipv4Address) (message : Message) (type : DhcpMessageType) (address : Ipv4Address)
    → given (reply_by values mine free message type) ≡ Some address → Gives mine free address
gives values mine free message kind.Discover address is = gives_discover mine free address is
gives values mine free message kind.Request address is = inl (gives_request values mine message message.server_identifier address is)
gives values mine free message kind.Release address is = absurd (none_some address (sym (releases (holds_it mine message.client_ip)) ∙ is))
gives values mine free message kind.Offer address is = absurd (none_some address is)
gives values mine free message kind.Decline address is = absurd (none_some address is)
gives values mine free message kind.Ack address is = absurd (none_some address is)
gives values mine free message kind.Nak address is = absurd (none_some address is)
gives values mine free message kind.Inform address is = absurd (none_some address is)
gives values mine free message (kind.Unknown number) address is = absurd (none_some address is)

not_now : (o : Option Held) (now number : ℕ) → has_number o number ≡ true → (holds_number (held_at now o) number ≡ true → ⊥) → held_at now o ≡ None
not_now None now number has free = refl
not_now (Some held) now number has free = by_test (nat_lt now held.until)
    (λ hit. absurd (free (ap (λ (b : Bool). holds_number (cond b (Some held.address) None) number) hit ∙ has)))
    (λ miss. ap (λ (b : Bool). cond b (Some held.address) None) miss)

module _ (values : Values) (keys : Keys) (leases : List Lease) (table : SlotUse) (holders : AreHolders values keys leases table) where
  can_keep : (now : ℕ) (client : EthernetAddress) (address : Ipv4Address) → holds_it (holding (holders_in keys leases) client now) address ≡ true
      → CanHold values (holders_in keys leases) now client address
  can_keep now client address holds =
      let has = held_stored (value_at hardware_cmp (holders_in keys leases) client) now (number_of address) holds in
      record {
        within = stored_within values keys leases table holders client address has;
        free = λ other its. inl (only_one values keys leases table holders other client (number_of address) its has);
      }

  can_take : (now : ℕ) (client : EthernetAddress) (address : Ipv4Address) → refused values ≡ None
      → lowest_free values (is_taken (holders_in keys leases) now) ≡ Some address → CanHold values (holders_in keys leases) now client address
  can_take now client address checked found =
      let it = is_free (is_taken (holders_in keys leases) now) (first_number values) values.count address (count_parts values checked).fits found in
      record {
        within = of_range values address (record { from = it.from; below = it.below });
        free = λ other its. inr (not_now (value_at hardware_cmp (holders_in keys leases) other) now (number_of address) its
            (λ holds. true_false (is_taken (holders_in keys leases) now (number_of address)) (taken_by (holders_in keys leases) other now (number_of address) holds) it.free));
      }

  pub can_give : (now : ℕ) (client : EthernetAddress) (message : Message) (what : Reply) (address : Ipv4Address) → refused values ≡ None
      → what ≡ reply_to values (holding (holders_in keys leases) client now) (is_taken (holders_in keys leases) now) message
      → given what ≡ Some address → CanHold values (holders_in keys leases) now client address
  can_give now client message what address checked is gives_it = ⊎_elim
      (λ holds. can_keep now client address holds)
      (λ free. can_take now client address checked free)
      (gives values (holding (holders_in keys leases) client now) (lowest_free values (is_taken (holders_in keys leases) now)) message message.message_type address
      (sym (ap given is) ∙ gives_it))

  pub is_fair : (last : ℕ) → IsFair (record { values = values; holders = holders_in keys leases; last = last })
  is_fair last = record {
    alone = λ one other at mine its later one_holds other_holds same. only_one values keys leases table holders one other (number_of mine)
        (held_stored (value_at hardware_cmp (holders_in keys leases) one) at (number_of mine) (holds_own _ mine one_holds))
        (held_stored (value_at hardware_cmp (holders_in keys leases) other) at (number_of mine)
        (ap (holds_number (holding (holders_in keys leases) other at)) same ∙ holds_own _ its other_holds));
    within = λ client at address later holds. stored_within values keys leases table holders client address
        (held_stored (value_at hardware_cmp (holders_in keys leases) client) at (number_of address) (holds_own _ address holds));
  }

-- ---- what is given is held at once
up_to : (now span : ℕ) (it address : Ipv4Address) (before : Option Ipv4Address) → 0 < span → Some it ≡ Some address
    → held_up_to (now + span) it now before ≡ Some address
up_to now span it address before some is =
    let early : nat_lt now (now + span) ≡ true = lt-ltb now (now + span) (omega arith) in
    ap (λ (b : Bool). cond (b || holds_it before it) (Some it) None) early ∙ is

pub held_at_once : (values : Values) (now : ℕ) (what : Reply) (address : Ipv4Address) (before : Option Ipv4Address) → refused values ≡ None
    → given what ≡ Some address → held_after_reply values now what now before ≡ Some address
held_at_once values now (reply.Offer it) address before checked is = up_to now 60000000 it address before (lit< tt) is
held_at_once values now (reply.Ack it) address before checked is =
    let some : 0 < values.lease_secs * 1000000 = omega (arith, eqb-false values.lease_secs 0 (accepted values checked).lease) in
    up_to now (values.lease_secs * 1000000) it address before some is
held_at_once values now reply.Nak address before checked is = absurd (none_some address is)
held_at_once values now (reply.Silent why) address before checked is = absurd (none_some address is)
