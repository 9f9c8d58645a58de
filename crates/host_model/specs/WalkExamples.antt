-- Closed examples of which slots are looked at in an event, and of hops that are not known.
use Rattle.std.specs.Prelude.{◌≡◌, ℕ, ◌*◌, false, List, [], ◌∷◌, ◌++◌, Option, Some, None, map, replicate, if◌then◌else◌}
use Rattle.std.specs.List.{range_with_len}
use Rattle.net_wire.specs.declared.address.Ipv4Address.{Ipv4Address}
use Rattle.dhcp_client.specs.Hearing.{same_address}
use Rattle.dns_client.specs.declared.query.MulticastDns.TheVariants.{Disabled, Enabled}
use Rattle.dns_client.specs.QueryExamples.{request}
use Rattle.host_model.specs.Examples.{example_settings}
use Rattle.host_model.specs.Frames.{Listed, ArpRequest, Dns, dns_frames, request_for}
use Rattle.host_model.specs.HopExamples.{far, station}
use Rattle.host_model.specs.Lease.{held_of}
use Rattle.host_model.specs.Lives.{granted}
use Rattle.host_model.specs.LookExamples.{address, among, asks, new, one_server, query_by, quiet, rows, two_servers, unspecified}
use Rattle.host_model.specs.Neighbor.{ethernet_broadcast}
use Rattle.host_model.specs.QueryLooks.{Around, Looks, SentAsk, looks_from}
use Rattle.host_model.specs.QuerySlots.{Slot, Free, Live, Over}
use Rattle.host_model.specs.QueryTurns.{Look}

-- a look at a time in seconds with a message to a server, and one without
abbrev pub sent_at : ℕ → ℕ → Look
sent_at seconds last = record { at = seconds * 1000000; sent_to = Some (address last) }

abbrev pub seen_at : ℕ → Look
seen_at seconds = record { at = seconds * 1000000; sent_to = None }

abbrev pub waiting : ℕ → List Look → Slot
waiting number looks = Live (query_by Disabled number looks)

-- the looks of an event at 15 s
abbrev pub looked : Around → List Slot → Looks
looked around slots = looks_from around 15000000 false slots

abbrev pub left : Around → List Slot → List Slot
left around slots = (looked around slots).slots

-- a query whose next message is due at 16 s; the same, once a look at 15 s let it wait; a new one that is
-- asked then; and one that then ends, since mDNS has no address to send from
abbrev pub early : List Look
early = sent_at 14 53 ∷ sent_at 13 53 ∷ []

abbrev pub asked : ℕ → Slot
asked number = waiting number early

abbrev pub seen : ℕ → Slot
seen number = waiting number (seen_at 15 ∷ early)

abbrev pub sent : ℕ → Slot
sent number = waiting number (sent_at 15 53 ∷ [])

abbrev pub ending : ℕ → Slot
ending number = Live (query_by Enabled number [])

-- Slots before one that is due are looked at, free ones too. Behind a message slots are looked at only up to
-- the next one that is due, behind a slot without a message in any case: so a list that ended ends queries
-- before their due.
pub record WalksByExample : Type 0 where
  pub none_due : left one_server (asked 0 ∷ Free ∷ asked 1 ∷ []) ≡ asked 0 ∷ Free ∷ asked 1 ∷ []
  pub before_due : left one_server (asked 0 ∷ Free ∷ new 1 ∷ []) ≡ seen 0 ∷ Free ∷ sent 1 ∷ []
  pub behind_message : left one_server (new 0 ∷ asked 1 ∷ []) ≡ sent 0 ∷ asked 1 ∷ []
  pub behind_free : left one_server (new 0 ∷ Free ∷ asked 1 ∷ []) ≡ sent 0 ∷ Free ∷ asked 1 ∷ []
  pub up_to_due : left one_server (new 0 ∷ asked 1 ∷ new 2 ∷ []) ≡ sent 0 ∷ seen 1 ∷ sent 2 ∷ []
  pub behind_end : left one_server (ending 0 ∷ Free ∷ asked 1 ∷ []) ≡ Over 0 [] ∷ Free ∷ seen 1 ∷ []
  pub behind_over : left one_server (Over 0 [] ∷ asked 1 ∷ []) ≡ Over 0 [] ∷ asked 1 ∷ []
  pub no_list : left (among []) (new 0 ∷ Free ∷ asked 1 ∷ []) ≡ Over 0 [] ∷ Free ∷ Over 1 [] ∷ []
  pub no_address : left unspecified (new 0 ∷ asked 1 ∷ []) ≡ Over 0 [] ∷ Over 1 [] ∷ []
  pub no_list_yet : left (among []) (asked 1 ∷ []) ≡ asked 1 ∷ []

-- the hop of the first server is not known, that of the second is
abbrev pub half_known : Around
half_known =
    record two_servers { hop = λ to. if same_address to (address 53) then None else Some (station 4) }

-- a query that now asks the second server
abbrev pub old : ℕ → Slot
old number = waiting number (seen_at 0 ∷ [])

abbrev pub asks_old : List SentAsk
asks_old = record {
  ask = record { query = 0; place = 1; from = address 42; to = address 54; request = request Disabled };
  hop = station 4;
} ∷ []

-- An unknown hop ends the looks behind it, and the messages before it stay. Where it was not known no message
-- went out, so the next look sends, and the delays begin there.
pub record UnknownByExample : Type 0 where
  pub ends_looks : looked half_known (old 0 ∷ new 1 ∷ new 2 ∷ []) ≡ record {
    slots = waiting 0 (sent_at 15 54 ∷ seen_at 0 ∷ []) ∷ waiting 1 (seen_at 15 ∷ []) ∷ new 2 ∷ [];
    asks = asks_old;
    unknown = Some (address 53);
  }
  pub asks_later : rows one_server false (waiting 0 (seen_at 0 ∷ []) ∷ []) (range_with_len 2 14)
      ≡ asks 0 ∷ asks 0 ∷ quiet ∷ asks 0 ∷ replicate 3 quiet ++ asks 0 ∷ replicate 6 quiet

-- where messages went out and the looks ended at a destination behind the router, in an event whose DHCP
-- message asked for an address
abbrev pub frames_for : Option Ipv4Address → List SentAsk → List Listed
frames_for asked asks =
    dns_frames example_settings.hardware (Some (held_of granted)) asked
    (record { slots = []; asks = asks; unknown = Some far })

abbrev pub asks_router : List Listed
asks_router =
    ArpRequest ethernet_broadcast (request_for example_settings.hardware (held_of granted) (address 1)) ∷ []

-- An address is asked for once in an event, behind the messages of queries.
pub record RequestsOnceByExample : Type 0 where
  pub first : frames_for None [] ≡ asks_router
  pub other : frames_for (Some (address 53)) [] ≡ asks_router
  pub again : frames_for (Some (address 1)) [] ≡ []
  pub behind : frames_for None asks_old ≡ map Dns asks_old ++ asks_router
