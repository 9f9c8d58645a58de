-- The capture of a run: libpcap's file format over Ethernet (draft-ietf-opsawg-pcap), the frames in the order
-- of the events.
use Rattle.std.specs.Prelude.{ℕ, List, [], ◌∷◌, ◌++◌}
use Rattle.std.specs.List.{flat_map}
use Rattle.phy_layers.specs.PcapBytes.{global_header, packet_record}
use Rattle.host_model.specs.Script.{Arrival, Tick, Reset, Frame, Query, Event}
use Rattle.net_host.specs.declared.report.Row.{Row}
use Rattle.net_host.specs.declared.report.Sent.{Sent}

-- the records of the frames that were sent at a time
abbrev pub sent_records : ℕ → List Sent → List ℕ
sent_records at sent = flat_map (λ s. packet_record at s.frame) sent

-- the record of the frame that arrived at a time, where one did
abbrev pub arrived_record : ℕ → Arrival → List ℕ
arrived_record at Tick = []
arrived_record at Reset = []
arrived_record at (Frame bytes) = packet_record at bytes
arrived_record at (Query type_ name) = []

-- the records of an event: the frame that arrived, and then those that its row lists
abbrev pub event_records : Event → Row → List ℕ
event_records event row = arrived_record event.at event.arrival ++ sent_records event.at row.sent

abbrev pub records : List Event → List Row → List ℕ
records [] rows = []
records (event ∷ events) [] = []
records (event ∷ events) (row ∷ rows) = event_records event row ++ records events rows

-- the whole capture: link type 1 is Ethernet
abbrev pub run_capture : List Event → List Row → List ℕ
run_capture events rows = global_header 1 ++ records events rows
