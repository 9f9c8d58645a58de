use Rattle.std.proofs.Common.{arith, refl, ◌≡◌, List, [], ◌∷◌}
use Rattle.dhcp_client.specs.Messages.{limited_broadcast, unspecified}
use Rattle.host_model.specs.Frames.{frames_of}
use Rattle.net_wire.specs.Datagram.{ethernet_bytes, ipv4_bytes, pseudo_header, udp_bytes}
use Rattle.net_wire.specs.DhcpBytes.{header_bytes, message_bytes, options_bytes}
use Rattle.phy_layers.specs.PcapBytes.{global_header, packet_record, record_header}
use Rattle.net_host.specs.Captured.{run_capture}
use Rattle.net_host.specs.Listed.{AreListed}
use Rattle.run_examples.specs.OneTick.{capture_head, discover, row, sent, tick, words}
use Rattle.run_examples.specs.QueryFrames.{settings}
use Rattle.std.specs.Prelude.{◌++◌}
use Rattle.run_examples.proofs.runs.one_tick_by_example.Goals as goal

is_listed : AreListed settings (frames_of settings [] tick words) sent
unfolding ethernet_bytes ipv4_bytes udp_bytes pseudo_header message_bytes header_bytes options_bytes
is_listed = (
  record {
    0 = discover;
    1 = refl;
    2 = record {
      header = ipv4_bytes unspecified limited_broadcast 17 270 64 14796;
      udp_checksum = 29812;
      within = (omega arith, omega arith);
      ipv4 = record { checksum = 14796; within = omega arith; bytes = refl; sums = refl };
      bytes = refl;
      sums = refl;
    };
  },
  tt,
)

is_captured : run_capture (tick ∷ []) (row ∷ []) ≡ capture_head ++ discover
unfolding global_header packet_record record_header
is_captured = refl

pub returns : goal.returns
returns c = record {
  listed = is_listed;
  captured = is_captured;
}
