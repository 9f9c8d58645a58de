-- The parts stand one behind another, and the checksum brings their sum to zero.
use Rattle.std.proofs.Common.{◌≡◌, ◌+◌, length, ap, arith, rules}
use Rattle.wire_base.specs.Checksum.{word_sum}
use Rattle.std.proofs.Math.Seq.{take-length}
use Rattle.std.proofs.lemmas.Grind.{common_steps}
use Rattle.net_wire.proofs.DatagramLemmas.{word_sum-datagram}
use Rattle.net_wire.proofs.udp.udp_frame.Goals as goal

pub returns : goal.returns
returns c =
    let twelve : length c.pseudo_header.result ≡ 12 = search rules in
    let checksum = c.transmitted_checksum_of in
    let udp = c.args.udp.now in
    let covered = word_sum-datagram c.pseudo_header.result c.args.payload.now udp.src_port udp.dst_port (length c.args.payload.now + 8) checksum.result twelve checksum.type_inv in
    record {
      header = c.header-2.result;
      udp_checksum = checksum.result;
      within = (omega (arith, checksum.ensures.present), checksum.type_inv);
      ipv4 = rw (c.requires.next_header, c.requires.payload_len) at c.header-2.ensures;
      bytes = grind (arith, common_steps, take-length c.append.new.into);
      sums = rw (← c.pseudo_header.ensures) (omega (arith, covered, ap word_sum c.header.ensures));
    }
