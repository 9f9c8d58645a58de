-- What is left by events for those that come behind them.
use Rattle.std.specs.Prelude.{◌≡◌, ℕ, List, length}
use Rattle.net_wire.specs.declared.address.Ipv4Address.{Ipv4Address}
use Rattle.host_model.specs.Anchor.{anchor_before}
use Rattle.host_model.specs.History.{Entry, last_id, times_since}
use Rattle.host_model.specs.Neighbor.{events_of, neighbor_in}
use Rattle.host_model.specs.Queries.{query_count, slots_before}
use Rattle.host_model.specs.Settings.{Settings}

-- Two histories leave the same: as many events, the id and the times of the messages that were sent, what the DHCP client
-- goes by, the stations that told of themselves, and the queries.
pub record LeaveTheSame (settings : Settings) (one other : List Entry) : Type 0 where
  pub count : length one ≡ length other
  pub id : last_id one ≡ last_id other
  pub times : (place : ℕ) → times_since place one ≡ times_since place other
  pub anchor : anchor_before settings one ≡ anchor_before settings other
  pub stations : (address : Ipv4Address)
      → neighbor_in settings (events_of one) address ≡ neighbor_in settings (events_of other) address
  pub queries : query_count one ≡ query_count other
  pub slots : slots_before settings one ≡ slots_before settings other
