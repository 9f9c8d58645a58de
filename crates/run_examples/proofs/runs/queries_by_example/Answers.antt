use Rattle.std.proofs.Common.{arith, refl}
use Rattle.net_wire.specs.Datagram.{ethernet_bytes, ipv4_bytes, pseudo_header, udp_bytes}
use Rattle.net_wire.specs.DnsMessage.{query_bytes}
use Rattle.run_examples.specs.QueryFrames.{local, local_frame, plain, plain_frame, settings}
use Rattle.net_host.specs.Listed.{IsFrameOfQuery}
use Rattle.run_examples.proofs.runs.queries_by_example.Goals as goal

plain_sent : IsFrameOfQuery settings plain plain_frame
unfolding ethernet_bytes ipv4_bytes udp_bytes pseudo_header query_bytes
plain_sent = record {
  header = ipv4_bytes plain.ask.from plain.ask.to 17 37 64 46852;
  udp_checksum = 36345;
  within = (omega arith, omega arith);
  ipv4 = record { checksum = 46852; within = omega arith; bytes = refl; sums = refl };
  bytes = refl;
  sums = refl;
}

local_sent : IsFrameOfQuery settings local local_frame
unfolding ethernet_bytes ipv4_bytes udp_bytes pseudo_header query_bytes
local_sent = record {
  header = ipv4_bytes local.ask.from local.ask.to 17 33 64 38890;
  udp_checksum = 16418;
  within = (omega arith, omega arith);
  ipv4 = record { checksum = 38890; within = omega arith; bytes = refl; sums = refl };
  bytes = refl;
  sums = refl;
}

pub returns : goal.returns
returns c = record {
  plain = plain_sent;
  local = local_sent;
}
