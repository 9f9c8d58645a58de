-- Entries that lead to the same, and frames that leave what a tick leaves.
use Rattle.std.specs.Prelude.{◌≡◌, ℕ, List, ◌∷◌, None}
use Rattle.net_wire.specs.Arp.{arriving_arp}
use Rattle.net_wire.specs.Arrival.{arriving_datagram}
use Rattle.host_model.specs.Settings.{Settings}
use Rattle.host_model.specs.History.{Entry}
use Rattle.host_model.specs.Anchor.{anchor_after_heard, anchor_before}
use Rattle.host_model.specs.Hearing.{heard_at}
use Rattle.host_model.specs.Neighbor.{told_by}
use Rattle.host_model.specs.Queries.{hears_datagram, query_count, servers_before, slots_before}

-- two entries that differ in what arrived alone, and not in what that led to
pub record AreAlike (settings : Settings) (before : List Entry) (one other : Entry) : Type 0 where
  pub at : one.event.at ≡ other.event.at
  pub sent : one.sent ≡ other.sent
  pub told : told_by settings one.event.arrival ≡ told_by settings other.event.arrival
  pub anchor : anchor_before settings (one ∷ before) ≡ anchor_before settings (other ∷ before)
  pub count : query_count (one ∷ before) ≡ query_count (other ∷ before)
  pub slots : slots_before settings (one ∷ before) ≡ slots_before settings (other ∷ before)

-- a frame at a time that tells of no station, leaves what the client goes by, and decides no query
pub record IsIdle (settings : Settings) (before : List Entry) (at : ℕ) (bytes : List ℕ) : Type 0 where
  pub no_arp : arriving_arp settings.hardware bytes ≡ None
  pub anchor : (here : ℕ) → anchor_after_heard here at (heard_at settings before bytes) (anchor_before settings before)
      ≡ anchor_before settings before
  pub slots : hears_datagram settings (servers_before settings before) (arriving_datagram settings.hardware bytes)
      (slots_before settings before)
      ≡ slots_before settings before
