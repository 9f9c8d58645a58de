-- A frame that tells nothing leads to what a tick leads to; a foreign frame is one.
use Rattle.std.proofs.Common.{◌≡◌, ℕ, length, false, List, ◌∷◌, ◌++◌, Option, Some, None, map, refl, ap, ap₂, ◌∙◌}
use Rattle.std.proofs.Math.Path.{fun_ext}
use Rattle.std.proofs.lemmas.Bool.{cond_both}
use Rattle.net_wire.specs.declared.address.EthernetAddress.{EthernetAddress}
use Rattle.net_wire.specs.declared.address.IpAddress.{IpAddress}
use Rattle.net_wire.specs.declared.address.Ipv4Address.{Ipv4Address}
use Rattle.net_wire.specs.Arrival.{arriving_datagram}
use Rattle.net_wire.specs.Datagram.{Datagram}
use Rattle.dhcp_client.specs.Heard.{Nothing}
use Rattle.host_model.specs.declared.words.EventWords.{EventWords}
use Rattle.host_model.specs.Script.{Tick, Frame, Event}
use Rattle.host_model.specs.Settings.{Settings}
use Rattle.host_model.specs.History.{Entry}
use Rattle.host_model.specs.Hearing.{ear_after, heard_at, heard_by, is_for_client}
use Rattle.host_model.specs.Anchor.{anchor_after_heard, anchor_after_time, anchor_at, anchor_before}
use Rattle.host_model.specs.Chronicle.{entry_of}
use Rattle.host_model.specs.Foreign.{IsForeign, is_from_name_server, is_from_server}
use Rattle.host_model.specs.Frames.{frames_of}
use Rattle.host_model.specs.Lease.{held_before}
use Rattle.host_model.specs.Named.{named_message}
use Rattle.host_model.specs.Neighbor.{events_of, hop_address, known_at, known_hop}
use Rattle.host_model.specs.Queries.{around_at, arrived_over, hears_datagram, lines_at, looks_at, query_count, servers_before, slots_before}
use Rattle.host_model.specs.QueryAnswers.{after_datagram}
use Rattle.host_model.specs.QueryLines.{lines_of, refused_lines}
use Rattle.host_model.specs.QueryLooks.{Around, looks_from}
use Rattle.host_model.specs.QuerySlots.{Slot, freed}
use Rattle.host_model.specs.QueryStart.{Begun}
use Rattle.host_model.proofs.Alike.{AreAlike, IsIdle}

-- nothing is heard where no server's datagram comes
nothing_by : (settings : Settings) (before : List Entry) (found : Option Datagram)
    → is_from_server settings.client found ≡ false → heard_by (ear_after settings before) found ≡ Nothing
nothing_by settings before None none = refl
nothing_by settings before (Some datagram) none = rw none refl

-- and no query is answered where no name server's comes
none_answered : (settings : Settings) (servers : List IpAddress) (found : Option Datagram) (slots : List Slot)
    → is_from_name_server servers found ≡ false → hears_datagram settings servers found slots ≡ slots
none_answered settings servers None slots none = refl
none_answered settings servers (Some datagram) slots none =
    cond_both (is_for_client settings.client datagram) slots (after_datagram servers datagram slots)
    (λ heard. heard ≡ slots) (λ dhcp. refl) (λ other. rw none refl)

-- a foreign frame tells nothing
pub idle_of : (settings : Settings) (before : List Entry) (at : ℕ) (bytes : List ℕ)
    → IsForeign settings before bytes → IsIdle settings before at bytes
idle_of settings before at bytes foreign = record {
  no_arp = foreign.no_arp;
  anchor = λ here.
      ap (λ heard. anchor_after_heard here at heard (anchor_before settings before))
      (nothing_by settings before (arriving_datagram settings.hardware bytes) foreign.no_dhcp);
  slots = none_answered settings (servers_before settings before) (arriving_datagram settings.hardware bytes)
      (slots_before settings before) foreign.no_dns;
}

module _ (settings : Settings) (before : List Entry) (at : ℕ) (bytes : List ℕ)
    (idle : IsIdle settings before at bytes) where
  abbrev arrives : Event
  arrives = record { at = at; arrival = Frame bytes }

  abbrev ticks : Event
  ticks = record { at = at; arrival = Tick }

  leaves_anchor : anchor_at settings before arrives ≡ anchor_at settings before ticks
  leaves_anchor = ap (anchor_after_time settings before at) (idle.anchor (length before))

  leaves_message : (words : EventWords)
      → named_message settings before arrives words ≡ named_message settings before ticks words
  leaves_message words = rw leaves_anchor refl

  leaves_known : (address : Option Ipv4Address)
      → known_at settings (arrives ∷ events_of before) at address
      ≡ known_at settings (ticks ∷ events_of before) at address
  leaves_known None = refl
  leaves_known (Some address) = rw idle.no_arp refl

  leaves_hop : (destination : Ipv4Address)
      → known_hop settings before arrives destination ≡ known_hop settings before ticks destination
  leaves_hop destination = rw (leaves_known (hop_address (held_before settings before) destination)) refl

  leaves_hops : known_hop settings before arrives ≡ known_hop settings before ticks
  leaves_hops = fun_ext leaves_hop

  leaves_sent : (words : EventWords)
      → (entry_of settings before arrives words).sent ≡ (entry_of settings before ticks words).sent
  leaves_sent words = rw (leaves_hops, leaves_message words) refl

  leaves_arrived : (words : EventWords)
      → arrived_over settings before arrives words (slots_before settings before)
      ≡ arrived_over settings before ticks words (slots_before settings before)
  leaves_arrived words = ap (λ left. record { slots = left; refused = None }) idle.slots

  leaves_looks : (words : EventWords)
      → looks_at settings before arrives words ≡ looks_at settings before ticks words
  leaves_looks words =
      let around : (Ipv4Address → Option EthernetAddress) → Around =
      λ hop. record (around_at settings before ticks) { hop = hop } in
      let begun : Begun = arrived_over settings before arrives words (slots_before settings before) in
      ap (λ hop. looks_from (around hop) at false begun.slots) leaves_hops
      ∙ ap (λ begun. looks_from (around_at settings before ticks) at false begun.slots)
      (leaves_arrived words)

  pub leaves_lines : (words : EventWords)
      → lines_at settings before arrives words ≡ lines_at settings before ticks words
  leaves_lines words =
      ap₂ (λ begun looks. refused_lines (query_count before) begun.refused ++ lines_of looks.slots)
      (leaves_arrived words) (leaves_looks words)

  pub leaves_frames : (words : EventWords)
      → frames_of settings before arrives words ≡ frames_of settings before ticks words
  leaves_frames words = rw (leaves_looks words, idle.no_arp, leaves_hops, leaves_message words) refl

  -- the entry of such a frame is that of a tick, but for what arrived
  pub alike : (words : EventWords)
      → AreAlike settings before (entry_of settings before arrives words)
      (entry_of settings before ticks words)
  alike words = record {
    at = refl;
    sent = leaves_sent words;
    told = idle.no_arp;
    anchor = leaves_anchor;
    count = refl;
    slots = ap (λ looks. map freed looks.slots) (leaves_looks words);
  }
