use Rattle.std.proofs.Common.{arith, refl}
use Rattle.net_wire.specs.Datagram.{ethernet_bytes, ipv4_bytes, pseudo_header, udp_bytes}
use Rattle.made_script.specs.Server.{address_of, response_bytes, ten}
use Rattle.made_script.specs.Made.{IsMadeAt}
use Rattle.host_model.specs.Script.{Frame}
use Rattle.run_examples.specs.MadeEvents.{event_at, response, words}
use Rattle.run_examples.proofs.runs.made_by_example.Goals as goal

is_answer : IsMadeAt words 105 (event_at 105000000 (Frame response))
unfolding ethernet_bytes ipv4_bytes udp_bytes pseudo_header response_bytes
is_answer = record {
  at = refl;
  brings = record {
    frame = response;
    is = refl;
    sent = record {
      header = ipv4_bytes (ten 1) (address_of 255) 17 54 64 12451;
      udp_checksum = 6299;
      within = (omega arith, omega arith);
      ipv4 = record { checksum = 12451; within = omega arith; bytes = refl; sums = refl };
      bytes = refl;
      sums = refl;
    };
  };
}

pub returns : goal.returns
returns c = record {
  starts = record { at = refl; brings = refl };
  asks = record { at = refl; brings = refl };
  waits = record { at = refl; brings = refl };
  again = record { at = refl; brings = refl };
  answers = is_answer;
}
